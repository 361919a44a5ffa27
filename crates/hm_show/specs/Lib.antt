pub mod Words
pub mod Tables
pub mod Lines
pub mod Procs
pub mod Regions
pub mod Servers
pub mod Locks
