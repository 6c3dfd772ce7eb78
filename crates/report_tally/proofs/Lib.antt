pub mod Totals
pub mod Sound
pub mod Room
