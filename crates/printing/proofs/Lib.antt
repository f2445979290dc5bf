-- Laws of printing.
pub mod DecimalLaws
pub mod PutLaws
pub mod NumberLaws
pub mod PickLaws
pub mod PrintsOne
pub mod PrintedF2
pub mod TextLength
