pub mod Bytes
pub mod Report
pub mod Private
