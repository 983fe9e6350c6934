-- What the contracts cite.
pub mod Totals
