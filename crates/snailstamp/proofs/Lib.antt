-- The laws of the boundary.
pub mod Starting
pub mod Carrying
pub mod Tracing
pub mod Rating
pub mod Refusing
pub mod OneAnswer
