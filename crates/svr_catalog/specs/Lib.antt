pub mod Answers
pub mod Catalog
pub mod Layout
pub mod Listed
pub mod Stands
pub mod Merging
