use Rattle.std.proofs.Common.{sym, subst, Some, List, ℕ}
use Rattle.text_store.specs.Edits.{edit_of}
use Rattle.kept_text.specs.Keeping.{IsKept}
use Rattle.kept_text.proofs.Keeps.{kept_edited}
use Rattle.kept_text.proofs.kept.KeptText.apply.Goals as goal

pub invariant_of-self : goal.invariant_of-self
invariant_of-self c =
    let was = c.self.inside in
    subst (λ (t : List ℕ). IsKept t was.tokens.tokens was.parse was.changed was.same was.has_tree) (sym c.in_err-first.ensures.refused.0) c.self.invariant

pub invariant_of-self-2 : goal.invariant_of-self-2
invariant_of-self-2 c =
    let was = c.self.inside in
    let now = c.apply.new.self in
    subst (λ (n : ℕ). IsKept now was.tokens.tokens was.parse (Some n) was.same was.has_tree) (sym c.sooner.ensures)
    (kept_edited was.text now (edit_of c.args.edit.now) c.in_ok-first.first was.same was.tokens.tokens was.parse was.changed was.has_tree c.in_ok-first.ensures.done c.self.invariant)
