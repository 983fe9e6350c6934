-- The lent tables (Tables), how the code hands them on (Lent), the tally (Tally), a fresh start (Start), when both are sound (Sound); what a test of it promises (Exact); sums for counting places (Below).
pub mod Tables
pub mod Lent
pub mod Tally
pub mod Start
pub mod Exact
pub mod Sound
pub mod Below
pub mod Worked
pub mod Renaming
