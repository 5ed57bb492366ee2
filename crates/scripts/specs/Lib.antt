-- The root of the definitions: read Said for the line that words make, Read for what a script holds, and
-- Text for the lines of a text.
pub mod Said
pub mod Read
pub mod Text
