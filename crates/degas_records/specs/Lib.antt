pub mod Answers
pub mod BodyRecords
pub mod Listing
pub mod Opening
pub mod Steps
