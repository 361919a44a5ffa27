mod Trees
mod Undos
mod Stacks
mod Forgotten
mod Enlisted
mod BookBehind
mod BookTold
mod Drafts
mod Servers
mod Edits
mod Drawn
mod Whole
pub mod Firsts
mod Begins
mod Editions
mod RootNonces
