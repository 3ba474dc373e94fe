pub mod Animation
pub mod Examples
pub mod IndexRefusals
pub mod Orders
pub mod RecordList
pub mod RefusalRows
