pub mod Crc
pub mod Private
