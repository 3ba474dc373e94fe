pub mod Machines
pub mod Palette
pub mod Shown
