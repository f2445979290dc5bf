-- The rows that are about the blocks of a file.
pub mod FileFaults
