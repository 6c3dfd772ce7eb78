pub mod Numbers
pub mod Update
pub mod Inner
