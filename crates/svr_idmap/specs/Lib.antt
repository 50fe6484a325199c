pub mod Ids
pub mod Layout
