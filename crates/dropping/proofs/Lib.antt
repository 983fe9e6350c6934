-- The laws of this room.
pub mod Droppings
pub mod Cleanings
