-- The laws that proofs of functions use.
mod Read
mod Texts
mod Listings
mod Turns
mod Runs
mod Joined
pub mod Struck
pub mod Lengths
pub mod Example
