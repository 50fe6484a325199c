pub mod Calls
pub mod Reads
pub mod Writes
pub mod DiskCalls
pub mod Platter
pub mod Replaying
pub mod Disks
pub mod Flips
