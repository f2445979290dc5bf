-- Sets of groups as the digits of words.
pub mod Bits
