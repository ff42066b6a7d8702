mod Kept
mod Several
mod Stepping
