pub mod Outside
pub mod Found
pub mod Format
