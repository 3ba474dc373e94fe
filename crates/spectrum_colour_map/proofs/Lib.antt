pub mod ColourMap
pub mod Entries
pub mod Examples
pub mod HoldsPalettes
pub mod Numbered
pub mod Palettes
pub mod StopsPalettes
pub mod Vector
