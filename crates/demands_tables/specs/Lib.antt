pub mod Tables
pub mod Isolation
pub mod Indexes
