pub mod Checks
pub mod Joining
pub mod Merges
pub mod OwnLevels
pub mod OwnCounts
pub mod OwnResults
pub mod Laws
