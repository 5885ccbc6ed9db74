pub mod Plan
pub mod Held
pub mod Add
pub mod Run
