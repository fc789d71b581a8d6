-- Numbers: the arithmetic that the functions' proofs share. Checks and Laws: what the crates above may use.
mod Numbers
pub mod Checks
pub mod Laws
