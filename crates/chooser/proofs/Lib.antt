-- The laws of the chooser, each file leaning on those above it.
pub mod CopyLaws
pub mod RoundLaws
pub mod EndLaws
