pub mod Leaves
pub mod Folded
