-- What the parts of the balance rule say beyond crates/survey.
pub mod Rule
pub mod Balances
pub mod Largest
