-- The items with their points, through calls.
mod ChainLaws
-- What reading the prelude counts.
mod Counting
-- The variables that were found for each item.
mod FreeLaws
-- One item more, and the variables that are found for it.
mod ItemFree
-- What typing the items of a text gives.
mod GivenLaws
-- What is known of a typer's items.
mod KnownLaws
-- Trees that are alike.
mod Likeness
-- Names that are one.
mod OneName
-- The points before items.
mod PointLaws
-- The state after the prelude.
mod Opening
-- What reading the prelude gives.
mod Reading
-- What the parser takes of the prelude.
mod Shifting
-- Faults of items that are `let` and `;;` alone.
mod Refused
-- Parts of different sorts.
mod Sorts
-- Calls that type items.
mod TypedLaws
-- What is recorded for expressions and patterns.
mod TypedNodes
-- Items that are `let`, `;;` and exceptions without an argument.
mod Values
