pub mod Combined
pub mod Periods
pub mod Reports
pub mod Answers
pub mod Silence
