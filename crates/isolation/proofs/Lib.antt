pub mod OwnPart
pub mod Fits
pub mod OwnCalls
pub mod Steps
pub mod Isolation
pub mod Examples
pub mod OneCall
