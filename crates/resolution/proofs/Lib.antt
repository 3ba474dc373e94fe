pub mod Choice
pub mod Rasters
pub mod Shapes
