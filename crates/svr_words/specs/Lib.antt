pub mod Command
pub mod Layout
pub mod Words
