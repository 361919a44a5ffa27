pub mod Records
pub mod Book
pub mod Parts
pub mod Laws
pub mod Blank
pub mod Lists
