mod Counting
mod Ending
mod Ends
mod Firsts
pub mod Posted
mod Running
