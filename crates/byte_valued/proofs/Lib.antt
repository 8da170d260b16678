pub mod NumberBytes
