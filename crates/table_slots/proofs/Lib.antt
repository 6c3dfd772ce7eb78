pub mod Owner
pub mod Slot
pub mod Marks
pub mod Places
