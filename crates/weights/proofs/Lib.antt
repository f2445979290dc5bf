-- The laws of sums over marked groups and of weights.
pub mod MarkedLaws
pub mod PutLaws
