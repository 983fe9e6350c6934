-- What the contracts cite.
pub mod Newcomer
