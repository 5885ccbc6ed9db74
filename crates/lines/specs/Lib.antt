pub mod Bytes
pub mod Numbers
pub mod Lines
pub mod Contents
pub mod Private
