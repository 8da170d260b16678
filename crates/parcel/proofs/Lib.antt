pub mod Refusals
pub mod PagePlaces
pub mod DirtyList
pub mod WrittenPages
pub mod PageNumbers
pub mod AppliedSteps
pub mod TakenSteps
