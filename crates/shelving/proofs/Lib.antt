-- The laws of this room.
pub mod Links
pub mod Lives
pub mod Covers
pub mod Making
pub mod MakingRoom
pub mod PuttingBack
pub mod Popping
pub mod Dropping
pub mod Tellings
pub mod Beyond
pub mod Runnings
