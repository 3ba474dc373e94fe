pub mod Acceptance
pub mod Converting
pub mod Elite
pub mod RoundTrip
