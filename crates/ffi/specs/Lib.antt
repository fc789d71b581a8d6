-- The words that cross to callers in other languages, in the terms of each layer.
pub mod ClockWords
pub mod ControllerWords
pub mod DriveWords
pub mod FastWords
pub mod ScanWords
pub mod SessionWords
pub mod StateWords
pub mod VoltageWords
pub mod Words
