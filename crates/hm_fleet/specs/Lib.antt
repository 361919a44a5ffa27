pub mod Crew
pub mod Mail
pub mod Fleet
