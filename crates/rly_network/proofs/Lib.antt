pub mod Rows
mod Numbers
mod Steps
mod NoneFound
mod Agreed
mod Ways
mod Shortest
mod Arrivals
mod Taken
