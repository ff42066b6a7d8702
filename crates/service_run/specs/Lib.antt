-- What a run of the program has done, by its exit status.
pub mod Numbers
pub mod Served
