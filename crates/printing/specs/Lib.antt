-- Specification 14, "Printing": what the program prints.
pub mod Texts
pub mod Printing
pub mod Pages
pub mod Put
