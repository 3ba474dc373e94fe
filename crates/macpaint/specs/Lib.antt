pub mod Accepts
pub mod Layout
pub mod Plate
pub mod Reading
pub mod Writing
