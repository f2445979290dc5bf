-- What a survey is refused for by its links alone.
pub mod LinkFaults
