pub mod Speeds
pub mod Laws
pub mod Private
