pub mod Animation
pub mod Examples
pub mod IndexAnswers
pub mod IndexRefusals
pub mod Orders
pub mod RecordList
pub mod RefusalRows
