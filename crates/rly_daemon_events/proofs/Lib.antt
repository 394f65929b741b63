mod Least
mod LineLaws
mod Runs
mod Waits
mod Written
