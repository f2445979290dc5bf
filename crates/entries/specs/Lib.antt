-- Entries of a list, as the code has them.
pub mod Entries
