pub mod Lists
pub mod Sorted
pub mod LiveRows
pub mod Swept
mod Apart
mod Beside
mod Told
