-- The root of the definitions: read Blocks for the calls that lines make, Replied for what a line is replied, Played
-- for a whole script, and Texts for how a reply is written.
pub mod Blocks
pub mod Reasons
pub mod Replied
pub mod Played
pub mod Texts
