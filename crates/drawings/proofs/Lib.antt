pub mod FirstLine
pub mod Texts
pub mod Periods
pub mod Answers
pub mod Laws
