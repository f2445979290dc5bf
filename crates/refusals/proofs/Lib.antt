-- The laws of searches and tests, and what ranges say.
pub mod SearchLaws
pub mod Looking
pub mod Ranges
