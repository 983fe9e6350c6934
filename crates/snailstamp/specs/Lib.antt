-- What the functions of the run (Run), of trace bytes (Traces), of logs (Logs), of the sheet (Sheets) and of the ratios (Rates) promise, and those below them (Steps).
pub mod Run
pub mod Traces
pub mod Logs
pub mod Steps
pub mod Sheets
pub mod Rates
