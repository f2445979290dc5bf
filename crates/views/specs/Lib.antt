-- What the code of one block says beyond crates/survey.
pub mod Views
pub mod BlockViews
pub mod Sums
