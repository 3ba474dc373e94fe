pub mod Accepts
pub mod Layout
pub mod Reading
pub mod ScreenWords
