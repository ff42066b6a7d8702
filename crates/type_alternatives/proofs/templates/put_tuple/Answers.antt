use Rattle.std.proofs.Common.{◌∙◌, ◌+◌, ◌-◌, ◌++◌, codes, append_assoc, sym, ap}
use Rattle.std.specs.Prelude.{string_bytes}
use Rattle.type_alternatives.specs.Templates.{repeated}
use Rattle.type_alternatives.proofs.Repeats.{repeated_step}
use Rattle.type_alternatives.proofs.templates.put_tuple.Goals as goal

pub loop-preserved : goal.loop-preserved
loop-preserved c =
    let text = string_bytes c.loop.text in
    let rest = repeated (c.args.parts - (c.loop.counter + 1)) (codes ", _") in
    ap (λ t. t ++ rest) c.in_ok-put-2.ensures
    ∙ (append_assoc text (codes ", _") rest ∙ (ap (λ r. text ++ r) (sym (repeated_step (codes ", _") c.args.parts c.loop.counter c.loop-test.true)) ∙ c.loop.invariant))
