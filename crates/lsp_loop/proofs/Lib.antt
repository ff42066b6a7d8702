mod Frames
mod Runs
mod Taking
