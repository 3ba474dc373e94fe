pub mod Blocks
pub mod Columns
pub mod Lines
pub mod Registers
pub mod Screens
