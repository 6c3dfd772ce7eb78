pub mod Entry
pub mod Rounds
pub mod Tests
pub mod Agree
pub mod Found
pub mod Standing
pub mod Ranges
