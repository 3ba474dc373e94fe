pub mod Records
pub mod Row
pub mod Rows
pub mod Stops
pub mod Unpack
pub mod Unpacks
pub mod UnpacksRows
pub mod WholeRecords
