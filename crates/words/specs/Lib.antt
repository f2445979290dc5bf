-- Where a written number stands.
pub mod Words
