pub mod Folds
mod Digits
mod Cuts
mod Spots
mod Counts
mod Lines
