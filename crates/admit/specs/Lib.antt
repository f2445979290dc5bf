-- What admission's contracts say beyond crates/survey: where its lists stand.
pub mod Lists
pub mod Groups
