pub mod Soundness
pub mod Charging
pub mod Opening
pub mod After
pub mod Choosing
pub mod Reporting
pub mod Performing
