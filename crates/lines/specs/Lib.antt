-- Decimal numbers, the words and the lines of the sheet.
pub mod Decimal
pub mod Words
pub mod Lines
