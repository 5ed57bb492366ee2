-- The root of the lemmas.
pub mod Filters
pub mod Trimming
pub mod Making
pub mod Lessons
pub mod Bounds
pub mod Seen
