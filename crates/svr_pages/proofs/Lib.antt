pub mod AfterRead
pub mod Faults
pub mod Finding
pub mod Grown
pub mod Keeping
pub mod Stretching
pub mod Telling
pub mod Using
