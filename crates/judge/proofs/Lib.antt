-- The laws behind the passes of the judge.
pub mod Parts
pub mod Entering
pub mod Stacking
pub mod Stamping
pub mod Verdicts
pub mod OneVerdict
