pub mod Bounds
mod Seen
mod Readings
pub mod Orders
mod Servers
mod Inputs
mod Allowing
mod Forgetting
mod Drawn
mod Telling
mod Staying
mod Rows
mod Spaces
mod Fencing
mod Downed
mod Places
pub mod Still
pub mod Named
mod Putting
mod Keyed
mod Latest
mod Served
mod Cores
mod Rooting
pub mod Rooted
pub mod Laid
mod Fixed
mod Untold
pub mod Imaged
pub mod Rebased
pub mod Shown
