-- What the contracts of the Squid reader cite.
pub mod Lines
pub mod Fields
pub mod Numbers
pub mod Entries
pub mod Logs
pub mod Promise
pub mod Steps
