pub mod LittleEndian
pub mod Buffers
pub mod Heads
pub mod ByteLaws
pub mod HeadLaws
pub mod Integers
pub mod IntegerProofs
