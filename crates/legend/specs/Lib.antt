pub mod Entries
pub mod Setting
