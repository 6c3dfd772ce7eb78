pub mod Laws
pub mod Behind
pub mod Extremes
pub mod Agree
