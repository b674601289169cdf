pub mod Limits
pub mod Start
pub mod Choice
pub mod Inner
