pub mod Numerals
pub mod Said
pub mod PageMaps
pub mod PageRanges
