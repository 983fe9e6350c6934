-- A quotient of two counts (Quotient), both ratios of a tally or the refusal (Ratios), and what a fitter relies on (Fair).
pub mod Quotient
pub mod Ratios
pub mod Fair
