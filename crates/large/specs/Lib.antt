-- What the contracts of the large numbers cite.
pub mod Large
