pub mod Own
pub mod Points
