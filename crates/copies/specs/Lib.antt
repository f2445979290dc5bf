-- Entries copied from a file into a lent list.
pub mod Copies
