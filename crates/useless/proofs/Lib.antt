-- Specification 15.4 and 15.5: wrong turns and useless programs, each ruled out by the promises.
-- What is owed to a call, and sets that have nothing.
pub mod Owed
pub mod NothingSets
-- Useless programs.
pub mod Choosers
pub mod Readers
pub mod Checkers
-- Wrong turns.
pub mod WrongTurns
pub mod Growing
pub mod Averages
