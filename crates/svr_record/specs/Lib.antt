pub mod Bodies
pub mod Grammar
pub mod Limits
pub mod Reading
