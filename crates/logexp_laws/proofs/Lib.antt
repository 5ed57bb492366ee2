-- The root of the lemmas.
pub mod Octave
pub mod Undo
