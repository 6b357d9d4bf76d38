pub mod Status
pub mod Refusal
pub mod Outcome
pub mod Version
