-- What a run keeps (Shelf), the two methods (Method), their events and totals (Events, Totals), the plain method with credits (Credit),
-- whole inflation and the lifts of a run (Whole), and what is promised of them (Promise, Recut).
pub mod Shelf
pub mod Method
pub mod Events
pub mod Totals
pub mod Credit
pub mod Whole
pub mod Promise
pub mod Recut
