pub mod Exported
pub mod Accuracy
