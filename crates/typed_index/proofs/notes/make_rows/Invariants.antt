use Rattle.std.proofs.Common.{◌≡◌, ℕ, length}
use Rattle.typed_index.specs.Seen.{seen_among}
use Rattle.typed_index.proofs.notes.make_rows.Given as goal

abbrev pub invariant-loop : goal.invariant-loop
invariant-loop g l = ((i p : ℕ) → seen_among l.items.items i p ≡ seen_among l.fn.items.items i p) × (l.counter ≡ length l.items.items)
