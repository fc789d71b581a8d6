-- For the crates above: the conditions of the checks, what the calls answer, counting, shades, latch, drive and image.
mod Numbers
mod Quanta
mod Pieces
mod Stages
mod Stretches
mod Rows
pub mod Checks
pub mod ValidQuanta
pub mod Counting
mod Due
pub mod Shades
pub mod Latches
pub mod Images
pub mod Runs
mod Packing
mod Steady
pub mod Leaves
pub mod FastPath
pub mod Drives
pub mod Agree
pub mod Answers
