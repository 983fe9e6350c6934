-- A division of two counts (Dividing), the laws of a quotient (Laws, Nearness), the answer due and that it is one (Rating), what a fitter relies on (Claims), worked ratios (Pieces).
pub mod Dividing
pub mod Laws
pub mod Nearness
pub mod Rating
pub mod Claims
pub mod Pieces
