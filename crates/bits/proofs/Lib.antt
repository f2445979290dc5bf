-- The laws of digits and rows.
pub mod BitLaws
