pub mod Spreads
pub mod Shown
