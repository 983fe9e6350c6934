-- The laws of the shelf and of the methods, and demand 3.
pub mod Shelves
pub mod Room
pub mod Cases
pub mod Counts
pub mod Sound
pub mod Raising
pub mod Lifts
pub mod Credits
pub mod Agreement
pub mod Runs
pub mod Recuts
pub mod Demand
mod AtLimit
