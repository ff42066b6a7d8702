use Rattle.std.proofs.Common.{◌∙◌, ◌++◌, ap, sym, append-nil}
use Rattle.std.proofs.lemmas.Bool.{eqb-true}
use Rattle.std.proofs.lemmas.List.{nil_from_length}
use Rattle.std.specs.Cmp.Lexicographic.{bytes_decides}
use Rattle.text_reading.specs.Trials.{Tried}
use Rattle.text_reading.proofs.tried.TriedText.is_kept.Goals as goal

pub returns-then-is_empty : goal.returns-then-is_empty
returns-then-is_empty g c = λ same.
    let left = c.slices.result.0.now in
    let right = c.slices.result.1.now in
    let none = nil_from_length right (eqb-true _ _ (sym c.is_empty.ensures ∙ c.if-is_empty.true)) in
    let here = (bytes_decides left c.as_bytes.result.now).0 (sym c.eq.ensures ∙ same) ∙ c.as_bytes.ensures.value in
    sym (ap (λ (t : Tried). t.text) c.self.view_is) ∙ sym c.text.ensures ∙ sym c.slices.ensures.text ∙ ap (λ r. left ++ r) none ∙ append-nil left ∙ here
