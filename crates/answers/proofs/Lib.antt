pub mod Cases
pub mod Orders
pub mod Versions
pub mod Only
pub mod Outs
