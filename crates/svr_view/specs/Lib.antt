pub mod Score
pub mod View
pub mod Layout
