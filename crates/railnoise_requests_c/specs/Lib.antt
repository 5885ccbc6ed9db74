pub mod Entitlement
pub mod Merged
pub mod Speed
pub mod Accuracy
pub mod Private
