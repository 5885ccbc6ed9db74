pub mod Entry
pub mod Levels
pub mod Request
pub mod Accuracy
pub mod Readings
pub mod SlowTrains
pub mod Private
