-- Which sort each slot of the grammar holds, and what the items of a program are.
pub mod Sorts
pub mod Items
