pub mod TextSpeeds
pub mod Private
