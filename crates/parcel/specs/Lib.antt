pub mod Parcels
pub mod Outcomes
pub mod Rules
