-- Decimals, read out of a text and printed.
pub mod Decimal
pub mod Print
pub mod Rest
