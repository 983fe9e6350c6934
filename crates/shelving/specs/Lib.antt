-- What the contracts cite.
pub mod Asked
pub mod Live
pub mod Room
pub mod Records
pub mod Evicting
pub mod Telling
pub mod Taking
