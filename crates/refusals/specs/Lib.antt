-- Refusals as the code makes them, and what a search or a test promises.
pub mod Refused
pub mod Searches
