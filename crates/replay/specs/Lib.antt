-- The rules by which the lists of the original's answers are made, and the tally of their cases.
pub mod Cases
pub mod Lists
pub mod Rules
pub mod Tally
