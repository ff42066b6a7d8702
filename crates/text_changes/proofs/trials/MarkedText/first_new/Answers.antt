use Rattle.std.proofs.Common.{refl, rules}
use Rattle.text_changes.specs.Trials.{same_code}
use Rattle.text_changes.proofs.Trying.{next_passed, next_taken}
use Rattle.text_changes.proofs.trials.MarkedText.first_new.Goals.{then-not-contains, else-not-contains}
use Rattle.text_changes.proofs.trials.MarkedText.first_new.Goals as goal

pub loop-mark-preserved : goal.loop-mark-preserved
loop-mark-preserved c = λ r least. c.loop-mark.invariant r (elim c.if-not-contains.branch [
  | then-not-contains w ↦ next_taken same_code (λ a b. refl) c.args.self.now.known.keys _ c.args.marks.now c.loop-mark.mark-index _ c.moved_mark-there.result c.loop-mark.first c.if-not-contains.first r (search rules) c.moved_mark-there.ensures (search rules) (search rules) least
  | else-not-contains w ↦ next_passed same_code (λ a b. refl) c.args.self.now.known.keys _ c.args.marks.now c.loop-mark.mark-index _ c.moved_mark-there.result c.loop-mark.first c.if-not-contains.first r (search rules) c.moved_mark-there.ensures (search rules) (search rules) least
])
