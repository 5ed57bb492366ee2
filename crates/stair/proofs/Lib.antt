-- The root of the lemmas.
pub mod Rows
