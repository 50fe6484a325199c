pub mod ByLayout
pub mod Spelling
pub mod Undamaged
pub mod Writing
