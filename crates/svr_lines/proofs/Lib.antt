pub mod Feeds
pub mod Parts
pub mod Skips
pub mod Splits
pub mod SoFar
pub mod Stream
