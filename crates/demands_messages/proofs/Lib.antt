pub mod Messages
pub mod Trips
