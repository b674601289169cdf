pub mod Encodings
pub mod Acceptance
pub mod Answering
pub mod Only
pub mod Writes
