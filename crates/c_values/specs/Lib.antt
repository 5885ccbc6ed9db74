pub mod Values
pub mod Accuracy
