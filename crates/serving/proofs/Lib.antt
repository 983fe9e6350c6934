-- The laws of this room.
pub mod Runnings
pub mod Cases
pub mod Writing
pub mod Cleanings
pub mod Servings
pub mod Seasons
