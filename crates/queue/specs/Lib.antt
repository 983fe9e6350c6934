-- What the contracts of the queue cite: `Queue` is for callers, `Exchanges` and `Moves` for the functions inside.
pub mod Queue
pub mod Exchanges
pub mod Moves
