-- The laws behind the checker: of what its looks say of the survey, and of how its answer is put together.
pub mod Rows
-- What the checker's promise comes to.
pub mod Accepting
