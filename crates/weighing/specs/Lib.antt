-- What the contracts cite.
pub mod Weighing
