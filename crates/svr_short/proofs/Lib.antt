mod Adding
mod AtKey
mod Keeping
pub mod Marking
mod NextKey
mod Places
mod Placing
mod Terms
mod Turning
