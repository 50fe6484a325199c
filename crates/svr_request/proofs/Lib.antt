pub mod Lines
pub mod Nested
