pub mod Drawings
pub mod Laws
pub mod Private
