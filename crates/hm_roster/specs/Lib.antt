pub mod Roster
pub mod Behind
pub mod Desk
pub mod Opening
pub mod Looks
