-- What the contracts of the lift cite (Lifting), and what it leaves as it was (Leaving).
pub mod Lifting
pub mod Leaving
