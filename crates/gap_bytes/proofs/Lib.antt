mod Runs
mod Slides
mod Values
