pub mod RollingFigures
pub mod SpeedStep
pub mod VehiclesStep
pub mod TrainsStep
pub mod Emission
pub mod Fences
