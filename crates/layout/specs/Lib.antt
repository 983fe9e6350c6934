-- The sheet as a function of the bytes; what the functions below the entry point promise (Steps); the promise.
pub mod Sheet
pub mod Steps
pub mod Promise
