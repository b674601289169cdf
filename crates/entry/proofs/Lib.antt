pub mod Packing
pub mod Standing
pub mod Versions
