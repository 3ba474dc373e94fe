pub mod Colours
pub mod Examples
