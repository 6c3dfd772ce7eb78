pub mod Head
pub mod Sin
pub mod Rows
pub mod Trips
pub mod OneKind
pub mod Limits
pub mod RowsWritten
pub mod OneKindWritten
