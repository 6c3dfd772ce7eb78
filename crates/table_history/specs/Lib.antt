pub mod History
pub mod Dict
pub mod Isolation
pub mod Private
