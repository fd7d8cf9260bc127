-- The step machine, rows of calls on it, and what every row promises.
pub mod Numbers
pub mod Layout
pub mod Machine
pub mod Calls
pub mod Run
pub mod Order
pub mod Follows
pub mod Worked
