-- Plain texts, their trees and their types.
pub mod Plain
