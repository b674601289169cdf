pub mod Grid
pub mod Counts
pub mod Totals
