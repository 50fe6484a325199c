pub mod Fields
pub mod Between
pub mod Reading
pub mod Turns
