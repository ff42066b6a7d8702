-- What an editor says to the service in the language server protocol, and what the service says back.
pub mod Positions
pub mod Spans
pub mod Frames
pub mod Messages
pub mod Answers
