mod Asked
mod Begun
pub mod Changing
mod Making
mod Paging
mod Publishing
pub mod Scored
mod Sliced
mod Taking
pub mod Twice
