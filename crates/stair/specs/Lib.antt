-- The root of the definitions: read Stairs, then Laws.
pub mod Stairs
pub mod Laws
