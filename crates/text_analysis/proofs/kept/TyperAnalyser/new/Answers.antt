use Rattle.text_analysis.specs.Given.{Opens}
use Rattle.text_analysis.proofs.Opening.{opens_first}
use Rattle.text_analysis.proofs.kept.TyperAnalyser.new.Goals as goal

pub invariant_of-result : goal.invariant_of-result
invariant_of-result g c =
    let opens : Opens c.with_prelude.new.at c.in_ok-first.first = opens_first c.in_ok-parts.parts c.with_prelude.new.at c.in_ok-first.first c.in_ok-parts.ensures.fresh c.with_prelude.ensures.goes (c.in_ok-first.ensures.outside c.in_ok-parts.ensures.fresh) in
    record { known = ∣ (c.with_prelude.new.at, c.in_ok-first.first, opens, c.new-2.ensures.typed opens) ∣₁ }
