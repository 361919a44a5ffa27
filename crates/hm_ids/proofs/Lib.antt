pub mod Drawn
pub mod DrawnAll
mod Ids
mod UndoneArgs
pub mod IdsAll
