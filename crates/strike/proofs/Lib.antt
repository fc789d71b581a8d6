-- Struck: demand 3. Never: no list from power-on is answered 3 to 5. Example: the claim is not empty, nor weaker than it reads.
mod Packs
mod Bytes
mod Bits
mod Runs
mod Tells
mod Groups
mod Calls
mod Supply
mod Looks
pub mod Struck
pub mod Never
pub mod Example
