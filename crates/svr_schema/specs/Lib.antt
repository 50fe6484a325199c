pub mod Components
pub mod Lawful
pub mod Lookups
pub mod Parts
pub mod Rules
pub mod Steps
pub mod Tables
