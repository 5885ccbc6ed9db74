pub mod Digits
pub mod Lengths
pub mod Forms
pub mod Concatenation
pub mod Pages
