-- The laws of one block. Other crates' proofs cite them.
pub mod ViewLaws
pub mod SumLaws
