mod Replying
mod Comparing
mod Known
