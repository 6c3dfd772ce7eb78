pub mod Antimeridian
pub mod Places
pub mod Held
