pub mod Faults
pub mod FileView
