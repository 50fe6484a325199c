pub mod Matching
pub mod Together
pub mod Turning
