-- The laws of patterns and of the names that they bind.
pub mod Binding
pub mod MatchedRows
pub mod OtherRows
pub mod PatternLaws
pub mod Carrying
pub mod Constructors
pub mod Stepping
pub mod Telling
pub mod Recording
