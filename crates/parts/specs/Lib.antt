-- What the contract cites.
pub mod Parts
