-- What the contract cites.
pub mod Hitting
