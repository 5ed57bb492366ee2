pub mod Totals
pub mod Bounds
