pub mod Ascending
pub mod Order
pub mod Folds
pub mod Bounds
pub mod Kept
pub mod Entries
pub mod Sets
