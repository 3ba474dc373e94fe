pub mod Accepted
pub mod Damage
pub mod Refusals
pub mod RoundTrips
