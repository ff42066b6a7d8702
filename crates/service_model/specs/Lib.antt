-- What the service says to a line: requests, answers and replies, over the text that it holds.
pub mod Requests
pub mod Replies
pub mod Answers
pub mod Completions
pub mod Runs
pub mod Structure
pub mod WellTyped
pub mod Made
pub mod Trials
