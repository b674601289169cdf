pub mod Cells
pub mod Tallies
pub mod Outs
pub mod Refusals
pub mod Totals
pub mod Only
pub mod Examples
