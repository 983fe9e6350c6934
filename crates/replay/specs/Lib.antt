-- What the contracts cite.
pub mod Carrying
pub mod Agreeing
pub mod Demand
