pub mod Charges
pub mod Openings
pub mod Choosings
