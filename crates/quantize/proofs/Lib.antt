pub mod Quotients
pub mod Reaching
