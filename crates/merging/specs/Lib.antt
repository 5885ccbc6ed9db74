pub mod Merge
pub mod Joined
pub mod Laws
