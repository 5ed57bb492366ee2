pub use Rattle.numerals.specs.Words
pub mod Lines
