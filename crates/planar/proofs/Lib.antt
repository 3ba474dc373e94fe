pub mod Examples
pub mod Planar
