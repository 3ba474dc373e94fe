pub mod Body
pub mod Damage
pub mod Packing
pub mod Reading
pub mod Unpacking
pub mod Unpacks
