-- What the contracts of the judge cite: `Judge` is for callers, `Passes` for the functions inside.
pub mod Judge
pub mod Passes
