pub mod Tests
pub mod Places
pub mod Parted
pub mod Walks
