-- What a store of the code stands for, and what it means that it did a call of the machine.
pub mod Indices
pub mod Counts
pub mod Shown
pub mod Called
