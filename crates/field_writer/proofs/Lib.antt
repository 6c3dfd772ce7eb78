pub mod Put
pub mod Place
