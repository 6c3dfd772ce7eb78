pub mod Walk
pub mod Lists
