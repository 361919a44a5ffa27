mod Entering
mod Heads
