-- The laws of a lift: `Raising` has what callers cite.
pub mod Turn
pub mod Orders
pub mod Shelves
pub mod Raising
