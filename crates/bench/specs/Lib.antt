pub mod Runs
pub mod Scripts
