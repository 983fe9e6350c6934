-- The bench pieces that are proved.
pub mod Pieces
pub mod Recuts
