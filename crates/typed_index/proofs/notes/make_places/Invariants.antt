use Rattle.std.proofs.Common.{◌≡◌, ℕ, length}
use Rattle.typed_index.specs.Seen.{seen_in}
use Rattle.typed_index.proofs.notes.make_places.Given as goal

abbrev pub invariant-loop : goal.invariant-loop
invariant-loop g l = ((p : ℕ) → seen_in l.nodes.items p ≡ seen_in l.fn.nodes.items p) × (l.counter ≡ length l.nodes.items)
