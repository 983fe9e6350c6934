-- The tally with one request more (Counting).
pub mod Counting
