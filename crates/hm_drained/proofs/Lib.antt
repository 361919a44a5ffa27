mod States
mod Coming
mod Leaving
mod Empty
