pub mod Acceptance
pub mod Blank
pub mod Examples
pub mod Header
pub mod Maps
pub mod Reading
pub mod Screen
pub mod Sizes
