-- Ends: where a session ends. Drawing: what is drawn then.
mod Ends
pub mod Drawing
