use Rattle.std.proofs.Common.{refl, ap, ◌∙◌}
use Rattle.std.specs.List.{list_any}
use Rattle.text_changes.specs.Trials.{same_code}
use Rattle.text_changes.proofs.Trying.{known_marks}
use Rattle.text_changes.proofs.trials.MarkedText.new.Goals as goal

pub invariant_of-result : goal.invariant_of-result
invariant_of-result c = record {
  knows = ∣ known_marks same_code (λ a b. refl) c.args.text.items c.args.parsed.now c.args.typed.now c.in_ok-marks.marks.items c.in_ok-known.known.keys c.requires.parsed c.requires.typed c.in_ok-marks.ensures (λ q. c.in_ok-known.ensures q ∙ ap (λ ms. list_any (same_code q) ms) c.deref.ensures.value) ∣₁;
}
