mod Gathering
mod Growing
mod Runs
mod Steps
