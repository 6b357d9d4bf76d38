pub mod Order
pub mod Cuts
pub mod Lengths
pub mod Reaches
pub mod Holds
