pub mod Ways
pub mod Explained
pub mod Refusals
pub mod Sizes
pub mod Marked
pub mod Same
