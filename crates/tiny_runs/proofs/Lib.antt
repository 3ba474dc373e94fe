pub mod Exact
pub mod Examples
pub mod Expanding
pub mod Expansion
pub mod Runs
pub mod WordBytes
