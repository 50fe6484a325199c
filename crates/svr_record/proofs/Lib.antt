pub mod Many
pub mod Parts
pub mod Records
pub mod Sizes
