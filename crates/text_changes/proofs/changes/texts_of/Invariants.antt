use Rattle.std.specs.Prelude.{◌≡◌, ◌++◌, map, drop}
use Rattle.text_terms.specs.Bytes.{str_bytes}
use Rattle.text_changes.specs.Changes.{text_in}
use Rattle.text_changes.proofs.changes.texts_of.Given as goal

abbrev pub invariant-loop-change : goal.invariant-loop-change
invariant-loop-change l = map str_bytes l.texts.items ++ map text_in (drop l.change-index l.changes) ≡ map text_in l.changes
