-- What the looks at a claim say beyond crates/survey.
pub mod Claims
pub mod Accepting
