-- The laws of reading and writing.
pub mod Groups
pub mod Enough
pub mod Fields
pub mod Scanning
pub mod Laying
pub mod Taking
pub mod Filling
pub mod Answers
pub mod Spelling
pub mod Listing
pub mod Ranges
pub mod Judging
pub mod Whole
pub mod RoundTrip
pub mod OneAnswer
pub mod Pieces
pub mod Exchange
