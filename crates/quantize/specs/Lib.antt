pub mod Scale
pub use Rattle.planes.specs.Planes
pub mod Indexes
pub mod Answer
pub mod Call
pub mod Figures
