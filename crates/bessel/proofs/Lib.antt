-- The root of the lemmas.
pub mod Tangents
pub mod Gains
pub mod Sums
