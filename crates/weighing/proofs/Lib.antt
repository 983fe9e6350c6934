-- The laws behind the weighing; `Shelving` is for the judge too.
pub mod Laws
pub mod Adding
pub mod Shelving
