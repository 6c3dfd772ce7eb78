pub mod Sign
pub mod Reading
pub mod Writing
pub mod DigitPairs
pub mod Answers
pub mod Back
