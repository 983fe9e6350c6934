-- What the contracts of the amounts cite.
pub mod Limits
pub mod Worth
pub mod Order
pub mod Settings
pub mod Requests
