mod Examples
mod Following
mod Loading
mod Stepping
