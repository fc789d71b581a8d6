-- How checks and answers are written in every crate.
pub mod Checks
