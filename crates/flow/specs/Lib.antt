-- What the code of the waves promises, from the bottom up.
pub mod Links
pub mod Copies
pub mod Chains
pub mod Ways
pub mod Drains
pub mod Tides
pub mod Sends
pub mod Waves
pub mod Heavy
