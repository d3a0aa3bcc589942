mod Cleaning
mod Committing
mod Fetching
mod Holding
mod Openings
mod Reading
mod Sorting
mod Writing
