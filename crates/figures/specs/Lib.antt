pub mod Refusal
pub mod Periods
pub mod Geometry
pub mod Rules
pub mod Bounds
pub mod Private
