-- The kinds of blocks by their numbers, and the sizes that a file's counts are within.
pub mod Kinds
pub mod Sizes
