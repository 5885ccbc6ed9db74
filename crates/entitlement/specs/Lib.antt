pub mod Conditions
pub mod Entitlement
pub mod Silence
pub mod Private
