pub mod Places
pub mod Lowest
pub mod Lift
pub mod Families
pub mod Events
