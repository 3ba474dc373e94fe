pub mod Examples
pub mod FindIndex
pub mod PositionTable
pub mod Positions
