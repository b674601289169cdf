pub mod Bounds
pub mod Ends
pub mod Only
pub mod Turns
pub mod Efforts
pub mod Examples
pub mod Zeros
