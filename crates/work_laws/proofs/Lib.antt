pub mod Frames
pub mod Parsers
pub mod Numbers
