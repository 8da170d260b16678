pub mod Kinds
pub mod Scripts
pub mod Values
