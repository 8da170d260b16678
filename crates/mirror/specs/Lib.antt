pub mod Runs
pub mod Mirror
pub mod Program
pub mod Refresh
pub mod Example
