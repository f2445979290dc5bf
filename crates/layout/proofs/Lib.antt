-- The laws of the kinds of blocks.
pub mod KindLaws
