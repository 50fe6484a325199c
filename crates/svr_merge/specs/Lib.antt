pub mod Images
pub mod Layout
pub mod Rules
pub mod Runs
