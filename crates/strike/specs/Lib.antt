-- The claim that nothing that looks disturbs. Start with Strike: it holds the statement.
pub mod Calls
pub mod Marks
pub mod Line
pub mod Strike
