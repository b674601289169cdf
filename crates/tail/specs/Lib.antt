pub mod Tail
pub mod Efforts
