pub mod Accuracy
