pub mod BitLaws
pub mod StoredBits
pub mod PageLaws
pub mod LentStorage
