pub mod Asked
pub mod Cached
pub mod Layout
pub mod Stretch
pub mod Told
