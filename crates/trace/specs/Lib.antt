-- What the contracts of the reader and the writer cite.
pub mod Number
pub mod Fields
pub mod Asked
pub mod Reading
pub mod Writing
pub mod Cards
pub mod Promise
pub mod Steps
pub mod Stores
