-- What the exported functions promise: the promises of reader, chooser and checker, with each answer as its number.
pub mod Numbers
pub mod Outcomes
