pub mod Found
pub mod Written
pub mod Eight
pub mod Chosen
