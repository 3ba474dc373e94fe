pub mod Reading
pub mod Tables
pub mod Whole
pub mod Writing
