pub mod Rolling
pub mod Speed
pub mod Vehicles
pub mod Trains
pub mod Emission
pub mod Fences
pub mod Results
pub mod Private
