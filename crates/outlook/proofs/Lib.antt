pub mod Walks
pub mod Repeats
pub mod Standing
