pub mod Runs
mod Turns
mod Granted
