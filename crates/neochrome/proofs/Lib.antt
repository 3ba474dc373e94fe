pub mod Acceptance
pub mod FileLayout
pub mod Opening
pub mod Reading
pub mod RoundTrip
pub mod Writing
