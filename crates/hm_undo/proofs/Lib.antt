mod Slots
mod Tells
