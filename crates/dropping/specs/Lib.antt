-- A kept file dropped (Dropping), and the copy of another size that a request drops first (Cleaning).
pub mod Dropping
pub mod Cleaning
