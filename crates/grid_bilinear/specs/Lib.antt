pub mod Bilinear
