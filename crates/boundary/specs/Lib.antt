-- Which answers one number can hold.
pub mod Packed
