pub mod Frames
pub mod Stream
pub mod Words
pub mod Private
