pub mod ColourMap
pub mod HoldsPalettes
pub mod Palettes
pub mod StopsPalettes
pub mod Vector
