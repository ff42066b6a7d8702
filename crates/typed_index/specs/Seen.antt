-- What an index has for each node.
use Rattle.std.specs.Prelude.{ℕ, Option}
use Rattle.typed_index.specs.declared.TypedIndex.{TypedIndex}
pub use Rattle.typed_index.specs.Lists.{seen_in, seen_among, at_number, with_note, before_item}

-- what an index has for an item and a number in it
abbrev pub seen_at : {S : Type 0} → TypedIndex S → ℕ → ℕ → Option S
seen_at x i p = seen_among x.items.items i p
