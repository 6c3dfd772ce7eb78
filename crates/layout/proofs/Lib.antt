pub mod Says
pub mod Loop
pub mod Answer
pub mod Round
pub mod Places
pub mod Taken
