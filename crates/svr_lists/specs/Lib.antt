pub mod Layout
pub mod Lists
pub mod Merges
pub mod Publish
pub mod Slices
pub mod Taken
