pub mod Fill
pub mod Answer
