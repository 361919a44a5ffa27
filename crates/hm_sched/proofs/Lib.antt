mod Keeping
mod Members
mod Moving
mod Numbers
mod Passing
mod Waking
