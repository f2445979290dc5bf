-- What the reader's code says beyond crates/survey.
pub mod Lent
