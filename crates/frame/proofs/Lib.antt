pub mod At
pub mod Lengths
pub mod Start
pub mod Behind
pub mod Words
