pub mod Plate
pub mod Performed
pub mod Events
