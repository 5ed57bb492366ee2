pub mod Nearness
pub mod Ordering
pub mod Subtypes
