pub mod Accepted
pub mod Only
pub mod Signatures
