-- What a call is that has been admitted, by name, for whoever goes on from there.
pub mod Calls
