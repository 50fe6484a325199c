mod Next
mod Places
mod Reached
