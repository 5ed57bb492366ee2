pub mod Flow
pub mod Calls
pub mod Histories
pub mod Lawful
pub mod Replaying
pub mod Opening
pub mod Performed
