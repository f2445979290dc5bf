-- Groups and weights, as the code has them.
pub mod Counts
