-- The laws of the sheet.
pub mod Running
pub mod Fitting
pub mod Ways
pub mod OneAnswer
pub mod Pieces
