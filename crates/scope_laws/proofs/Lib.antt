pub mod Heard
pub mod HeardPatterns
pub mod HeardExpressions
pub mod HeardRecords
pub mod HeardRows
pub mod Labels
pub mod ParsedSorts
pub mod TypedNodes
