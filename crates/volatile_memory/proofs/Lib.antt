pub mod Elements
pub mod LaidBytes
pub mod CallLaws
pub mod ElementBytes
