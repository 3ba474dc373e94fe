pub mod Lines
pub mod Long
pub mod Summary
