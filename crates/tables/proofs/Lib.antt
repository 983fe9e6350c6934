-- The laws of the tables, of a fresh start and of soundness.
pub mod Lists
pub mod Lengths
pub mod Lending
pub mod Ranges
pub mod Shelves
pub mod Starting
pub mod Near
pub mod FreshSound
pub mod Counting
pub mod Twins
pub mod Worked
pub mod Deciding
pub mod Answers
pub mod SoundDecided
pub mod Renamings
