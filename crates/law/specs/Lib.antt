pub mod Plain
pub mod History
pub mod Run
pub mod Law
