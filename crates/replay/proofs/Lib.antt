-- The laws of this room.
pub mod Carryings
pub mod Cases
pub mod OneAnswer
pub mod InParts
pub mod Demands
