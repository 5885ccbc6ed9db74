pub mod Lines
pub mod Breakdown
pub mod Private
