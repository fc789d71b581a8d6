-- The rules of document 01 for the clock.
pub mod Wide
pub mod Time
pub mod Rate
pub mod Position
pub mod Check
pub mod Edges
