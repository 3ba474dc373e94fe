pub mod Layout
pub mod Speed
pub mod Lists
pub mod Judging
pub mod Fields
