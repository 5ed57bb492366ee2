pub mod Rising
pub mod Choosing
