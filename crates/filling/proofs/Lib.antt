pub mod Filling
pub mod Makes
pub mod Putting
pub mod Records
