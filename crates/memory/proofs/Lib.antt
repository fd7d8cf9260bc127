-- The lemmas that several proofs share.
pub mod Bits
pub mod Copies
pub mod Images
pub mod Quiet
pub mod Runs
pub mod Rows
pub mod Promises
pub mod Lines
pub mod Members
pub mod Arrivals
pub mod Effects
pub mod Accepted
pub mod Stored
