pub mod Versions
pub mod Table
pub mod Calls
pub mod Shown
