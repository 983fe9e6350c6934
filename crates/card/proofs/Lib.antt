-- The laws of the red card.
pub mod Cases
