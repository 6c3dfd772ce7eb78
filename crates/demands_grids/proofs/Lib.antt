pub mod Worked
pub mod Grids
pub mod Absent
pub mod ShiftRows
