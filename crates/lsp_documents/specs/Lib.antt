-- The documents that an editor has open, and what each of its messages puts.
pub mod States
pub mod Changes
pub mod Reports
pub mod Puts
pub mod Views
pub mod Endings
pub mod Settling
pub mod Steps
pub mod Freshness
pub mod Placing
