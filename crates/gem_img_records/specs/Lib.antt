pub mod Line
pub mod MakesLine
pub mod Records
pub mod StopsLine
pub mod WholeRecord
