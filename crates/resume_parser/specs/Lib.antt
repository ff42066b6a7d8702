pub mod Kept
pub mod Retaken
