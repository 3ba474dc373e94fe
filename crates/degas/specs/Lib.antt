pub mod Accepts
pub mod Layout
pub mod LeastBody
pub mod Opening
pub mod Reading
pub mod Writing
