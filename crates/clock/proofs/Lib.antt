-- For the crates above: the LCD rates, the orders, number 5's conditions, the clock's laws, what its calls answer.
mod Words
mod Times
mod Positions
pub mod Rates
pub mod Checks
pub mod Laws
pub mod Order
pub mod Answers
