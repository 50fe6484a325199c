pub mod Cursor
pub mod CursorLaws
pub mod Heads
pub mod Layout
pub mod Lists
pub mod PagedLaws
