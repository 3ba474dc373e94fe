pub mod DataMap
pub mod Examples
pub mod MakesMap
pub mod Records
pub mod WholeRecord
