pub mod Faults
pub mod Spans
pub mod Memory
pub mod Calls
