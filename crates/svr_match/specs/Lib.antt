pub mod Joined
pub mod JoinedLaws
pub mod Layout
