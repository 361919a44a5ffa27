pub mod Book
pub mod Keys
pub mod Entries
pub mod Kept
pub mod HintLaws
pub mod Laws
pub mod Lowest
pub mod Needs
