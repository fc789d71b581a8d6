-- Document 01, 'Session program', in its order.
pub mod Text
pub mod Line
pub mod Listing
pub mod Session
pub mod Struck
pub mod Closed
