-- The laws of this room.
pub mod Putting
pub mod Tallies
pub mod Meetings
pub mod Entering
pub mod Admitting
