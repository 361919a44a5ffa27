pub mod Judge
pub mod Picks
pub mod Reports
pub mod Aborts
pub mod Inputs
pub mod Turns
pub mod Laws
pub mod Fresh
