-- What the contracts cite.
pub mod Serving
