mod Changed
mod Member
mod Picked
mod Freed
