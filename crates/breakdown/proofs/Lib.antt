pub mod Read
pub mod Parts
