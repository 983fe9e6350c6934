-- The laws of laying text.
pub mod Digits
pub mod Copying
pub mod Items
pub mod Listing
