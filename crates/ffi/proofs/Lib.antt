pub mod Answers
pub mod Blocks
mod Orders
mod Fits
pub mod OnBlock
pub mod Unchanged
mod Moved
pub mod RoundTrip
pub mod Temperatures
pub mod FastPath
