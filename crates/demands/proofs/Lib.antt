pub mod Acceptance
pub mod Answers
pub mod Damage
pub mod LeastBodies
pub mod Refusals
pub mod Registers
pub mod RoundTrips
