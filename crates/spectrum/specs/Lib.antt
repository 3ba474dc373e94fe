pub mod Accepts
pub mod Layout
pub mod Reading
pub mod Refuses
pub mod Screen
