-- Sums over marked groups, and weights put into lists.
pub mod Marked
pub mod Put
