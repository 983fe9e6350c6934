-- The laws behind the tests.
pub mod Amounts
