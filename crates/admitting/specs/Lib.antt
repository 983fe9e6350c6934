-- What the contracts cite: how a request is decided (Deciding), and the admission of a newcomer (Admitting).
pub mod Deciding
pub mod Admitting
