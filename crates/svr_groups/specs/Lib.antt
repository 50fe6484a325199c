pub mod Values
pub mod Groups
pub mod Layout
