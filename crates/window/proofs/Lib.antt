pub mod Products
pub mod Places
pub mod Stretches
pub mod Only
