pub mod Aggregates
pub mod Digits
pub mod Hits
pub mod Numbers
pub mod Scores
