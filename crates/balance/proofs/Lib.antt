-- The laws behind the balance rule: of rows in other words, of credits and debits, and of the rows.
pub mod Looks
pub mod Adding
pub mod Balancing
pub mod RuleRows
