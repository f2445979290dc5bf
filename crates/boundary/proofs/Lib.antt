-- The laws of the number over the boundary.
pub mod NumberLaws
