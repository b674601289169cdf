pub mod Numbers
pub mod Answers
pub mod Limits
pub mod Versions
pub mod OneAnswer
