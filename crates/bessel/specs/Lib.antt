-- The root of the definitions: read Tangent, Parameters, Follow.
pub mod Tangent
pub mod Parameters
pub mod Follow
pub mod Laws
pub mod Figures
