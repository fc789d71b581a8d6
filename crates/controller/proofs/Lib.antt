-- For the crates above: the conditions of the checks, what bytes and calls leave, and the edge figures.
pub mod Checks
pub mod PowerOn
pub mod Registers
pub mod Bytes
pub mod Parts
pub mod Groups
mod Whole
pub mod FastPath
pub mod Supplies
pub mod Figures
