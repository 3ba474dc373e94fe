pub mod Filling
pub mod Makes
