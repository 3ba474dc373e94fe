pub mod Acceptance
pub mod Examples
pub mod LeastBody
pub mod Plate
pub mod ReadPlate
pub mod RoundTrip
pub mod WritePlate
