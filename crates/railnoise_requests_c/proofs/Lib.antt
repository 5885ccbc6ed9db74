pub mod Texts
pub mod Calls
pub mod Refusals
pub mod Accuracy
pub mod SpeedCalls
