pub mod AcceptsRow
pub mod Rows
