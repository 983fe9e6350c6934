-- The laws of reading a log.
pub mod Ends
pub mod Walking
pub mod Spelling
pub mod Parting
pub mod Words
pub mod Entering
pub mod Widths
pub mod Passing
pub mod Answering
pub mod OneAnswer
pub mod RoundTrip
pub mod Fitting
pub mod Pieces
