-- The laws behind the cycle test.
pub mod ListLaws
pub mod TallyLaws
pub mod Members
pub mod Threads
pub mod Into
pub mod Peels
pub mod PeelSteps
pub mod PeelEnd
