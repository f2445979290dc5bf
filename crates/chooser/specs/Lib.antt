-- What the code of the chooser promises, from the bottom up.
pub mod Rounds
