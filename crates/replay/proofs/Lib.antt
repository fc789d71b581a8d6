-- Laws that the proofs of this crate use, and what a case at a place is.
mod Laws
mod Listing
mod Reading
pub mod There
