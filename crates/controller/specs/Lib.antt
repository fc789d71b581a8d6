-- The rules of document 01 for the controller, in its order.
pub mod State
pub mod Check
pub mod Event
pub mod Command
pub mod Byte
pub mod Bits
pub mod Closed
pub mod Fast
pub mod Supply
pub mod Look
pub mod Figures
pub mod Update
