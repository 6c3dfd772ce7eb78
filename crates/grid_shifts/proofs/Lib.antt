pub mod Floats
pub mod Parts
pub mod Accepted
pub mod TwoPlaces
pub mod Said
pub mod BothLongitudes
pub mod Lipschitz
pub mod Calls
