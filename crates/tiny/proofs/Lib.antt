pub mod Acceptance
pub mod Examples
pub mod Reading
pub mod ScreenWords
pub mod Screens
