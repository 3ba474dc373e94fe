pub mod Blocks
pub mod Bytes
pub mod Counts
pub mod Ones
pub mod Rectangles
pub mod Totals
pub mod Sets
