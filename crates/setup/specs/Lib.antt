pub mod Tests
pub mod Opening
pub mod Questions
