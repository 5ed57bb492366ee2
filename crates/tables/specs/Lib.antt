pub mod Tables
pub mod Choice
pub mod Depths
