pub mod Asks
pub mod Beside
pub mod Positions
pub mod Layered
