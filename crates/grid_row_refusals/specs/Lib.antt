pub mod ShiftRow
pub mod Private
pub mod Inner
