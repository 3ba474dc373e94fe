pub mod Joined
pub mod Offsets
pub mod PlaneRows
pub mod Shape
pub mod Spaced
