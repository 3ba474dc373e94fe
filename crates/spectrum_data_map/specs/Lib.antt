pub mod DataMap
pub mod FaultyRecord
pub mod Records
pub mod WholeRecord
