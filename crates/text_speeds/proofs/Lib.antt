pub mod TrainLines
pub mod Passed
pub mod AddedTo
pub mod Answered
