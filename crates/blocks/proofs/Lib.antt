-- The laws of a survey file's blocks. Other crates' proofs cite them.
pub mod ChainLaws
pub mod LaidOut
pub mod SameFile
