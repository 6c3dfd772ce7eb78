pub mod Node
pub mod Metres
pub mod Row
pub mod Refusals
pub mod Wanted
