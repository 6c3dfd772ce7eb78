pub mod Asked
pub mod Fill
pub mod Points
pub mod Writes
