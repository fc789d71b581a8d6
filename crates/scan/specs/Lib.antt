-- The rules of document 01 for the scan, in its order. Those from Closed on hold no rule: contracts of private functions cite
-- them, in the file of their code's name.
pub mod Settings
pub mod State
pub mod Check
pub mod Quantum
pub mod Count
pub mod Shade
pub mod Latch
pub mod Run
pub mod Drive
pub mod Image
pub mod Fast
pub mod Closed
pub mod Stretch
pub mod Planes
pub mod Segments
pub mod Paint
pub mod Byte
