pub mod Input
pub mod Program
pub mod Layout
pub mod Turning
pub mod Ran
