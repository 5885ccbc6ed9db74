pub mod Held
pub mod Additions
pub mod Runs
pub mod Plans
pub mod Listed
pub mod Remaining
