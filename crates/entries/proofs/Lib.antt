-- The laws of entries.
pub mod EntryLaws
