-- The laws of counts.
pub mod CountLaws
