pub mod Near
pub mod Choice
