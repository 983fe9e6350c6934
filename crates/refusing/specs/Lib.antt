-- What the contracts cite.
pub mod Judging
