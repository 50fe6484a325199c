pub mod Blocks
pub mod Ahead
