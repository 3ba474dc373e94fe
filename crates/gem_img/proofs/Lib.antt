pub mod Acceptance
pub mod Examples
pub mod Header
pub mod Lines
pub mod MakesLines
pub mod Reading
pub mod Sizes
