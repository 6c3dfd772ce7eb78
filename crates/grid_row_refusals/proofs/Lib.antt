pub mod Cells
pub mod Ends
pub mod Refused
pub mod Lacking
pub mod Runs
pub mod Reaches
pub mod Rest
pub mod Order
