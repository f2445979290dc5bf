-- The laws of a file that has passed the rows of its blocks, and how the answers of the reader come together.
pub mod FileLaws
pub mod Readings
