pub mod Layout
pub mod Parts
pub mod Requests
pub mod Workload
