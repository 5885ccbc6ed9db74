pub mod AsCount
pub mod Bytes
pub mod Digits
pub mod Values
pub mod Places
pub mod Counted
pub mod Entries
pub mod Lent
