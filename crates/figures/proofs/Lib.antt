pub mod Nothing
pub mod Twelve
