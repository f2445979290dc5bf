-- The answers fit their number, and two numbers that a promise allows are equal.
pub mod Fit
pub mod NumberOne
-- The three demands.
pub mod DemandLaws
pub mod Demands
