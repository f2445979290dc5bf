-- What the cycle test's contracts say beyond crates/survey: where the links stand, and the state of its passes.
pub mod Within
pub mod Lists
pub mod Tallies
pub mod Peeling
