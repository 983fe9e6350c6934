-- What the derived order of the large numbers is.
pub mod Comparing
