pub mod Format
pub mod Moving
pub mod Opening
pub mod Pieces
pub mod Run
pub mod Tail
pub mod Verdict
pub mod View
