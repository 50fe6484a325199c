pub mod Bounded
pub mod OneTerm
