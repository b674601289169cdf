pub mod Congruence
pub mod Folds
pub mod Halves
pub mod Numbers
pub mod Only
