mod Gathered
pub mod Order
pub mod Laws
mod Search
