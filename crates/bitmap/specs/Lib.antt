pub mod Pages
pub mod Storage
pub mod Tracked
pub mod Sound
