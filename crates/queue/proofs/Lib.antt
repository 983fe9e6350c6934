-- `Totals`, `Index` and `Callers` have the laws that callers cite; the others are for the proofs of this crate.
pub mod Totals
pub mod Index
pub mod Callers
pub mod Exchange
pub mod Heap
pub mod Walks
pub mod Turns
pub mod Hole
pub mod Ends
pub mod Stores
pub mod Worked
