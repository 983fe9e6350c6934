-- The laws that the crates above cite.
pub mod Tests
pub mod Values
pub mod Ordering
