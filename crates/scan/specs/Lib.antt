pub mod Walk
pub mod Listing
pub mod Efforts
pub mod Inner
pub mod Parts
