-- The rules of document 01 for the voltages: the check of the settings, the supplies, the answers, the setting finder.
pub mod Check
pub mod Voltage
pub mod Answers
pub mod Finder
