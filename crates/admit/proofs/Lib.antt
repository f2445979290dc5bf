-- The laws behind admission: of its lists, and of how its answer is put together.
pub mod ListLaws
pub mod ChainLaws
