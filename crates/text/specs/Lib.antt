pub mod Text
pub mod Additions
pub mod Answer
pub mod Private
