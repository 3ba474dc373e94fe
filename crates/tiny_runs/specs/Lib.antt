pub mod Expands
pub mod Expansion
pub mod Runs
