pub mod Accepts
pub mod Header
pub mod Lines
pub mod MakesLines
pub mod Reading
pub mod Refuses
pub mod StopsLines
