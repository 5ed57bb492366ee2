-- The root of the definitions: Tests, Opening and Questions are those of the settings, then read Meaning, Scales, Trims
-- and Curves, and Laws.
pub use Rattle.setup.specs.Tests
pub use Rattle.setup.specs.Opening
pub use Rattle.setup.specs.Questions
pub mod Meaning
pub mod Scales
pub mod Trims
pub mod Curves
pub mod Laws
