pub mod Chain
pub mod Store
pub mod Kept
pub mod Walk
