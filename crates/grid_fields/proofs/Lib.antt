pub mod Table
pub mod Says
pub mod NodeTable
pub mod Pairs
