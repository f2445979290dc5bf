-- The drawings of Specification 15 as bytes: calls that lend them, what the definitions say of them, and files that hold them.
pub mod Calls
pub mod Benched
pub mod Files
