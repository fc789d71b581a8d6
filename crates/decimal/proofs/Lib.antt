-- Laws: what the proofs of the functions use. The others: what the crates above may use.
mod Laws
pub mod Ends
pub mod Printing
pub mod ReadBack
pub mod Rests
