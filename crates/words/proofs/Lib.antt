pub use Rattle.numerals.proofs.Reading
pub mod Parting
