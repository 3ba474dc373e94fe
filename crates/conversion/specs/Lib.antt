pub mod Accepts
pub mod Converting
