mod Runs
mod Turns
