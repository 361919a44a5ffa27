pub mod Once
pub mod Serving
pub mod Events
pub mod Scenes
pub mod Moves
pub mod Travelling
