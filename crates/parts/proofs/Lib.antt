-- The laws of this room.
pub mod Walking
