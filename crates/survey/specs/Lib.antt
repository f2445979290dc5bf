-- The definitions: a file for each section of docs/SPECIFICATION.md from 2 to 15, in its order. (14, printing, stands in crates/printing/specs.)
pub mod Limits
pub mod Survey
pub mod Sets
pub mod Pick
pub mod Rounds
pub mod Balance
pub mod Words
pub mod SurveyFile
pub mod Refusals
pub mod Faults
pub mod Answers
pub mod Promises
pub mod Drawings
-- What the specification does not have and contracts cite.
pub mod Sound
pub mod Draining
