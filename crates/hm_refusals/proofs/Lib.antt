mod Aborting
mod Hearing
mod Submitting
