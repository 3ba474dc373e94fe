pub mod BodyRecords
pub mod Examples
pub mod Induction
pub mod Listing
pub mod Reading
pub mod Steps
pub mod Unpacking
