pub mod Agree
pub mod Only
