pub mod Caching
pub mod Finding
pub mod Making
pub mod Merging
pub mod Opening
pub mod Store
pub mod Submitting
