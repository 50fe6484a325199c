mod Begun
mod Fitting
pub mod Imaged
pub mod Paged
mod Scored
pub mod Slicing
pub mod Sorting
pub mod Touching
