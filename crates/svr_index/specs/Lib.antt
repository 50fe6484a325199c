pub mod Asked
pub mod Docs
pub mod Index
pub mod Layout
pub mod Search
pub mod Terms
