use Rattle.std.proofs.Common.{◌≡◌, ◌∷◌, ◌+◌, List, map, drop, sym, ◌∙◌, ap}
use Rattle.std.proofs.lemmas.List.{drop_more}
use Rattle.type_alternatives.specs.declared.values.Alternative.{Alternative}
use Rattle.type_alternatives.specs.Alternatives.{outermost_of}
use Rattle.type_alternatives.specs.Templates.{hidden_among}
use Rattle.type_alternatives.proofs.FirstHidden.{hidden_here, hidden_later}
use Rattle.type_alternatives.proofs.hidden.first_hidden.Goals as goal

pub returns-in-Some : goal.returns-in-Some
returns-in-Some c =
    let list = c.args.list.now in
    let at = c.loop-alternative.alternative-index in
    let x = c.alternative-item.result in
    let split : drop at list ≡ x ∷ drop (at + 1) list = drop_more list at x c.loop-alternative-test.true ∙ ap (λ (y : Alternative). y ∷ drop (at + 1) list) (sym c.alternative-item.is) in
    sym (hidden_here (outermost_of x) (map outermost_of (drop (at + 1) list)) _ (sym c.in-Some.ensures))
    ∙ (ap (λ (ys : List Alternative). hidden_among (map outermost_of ys)) (sym split) ∙ c.loop-alternative.invariant)

pub loop-alternative-preserved : goal.loop-alternative-preserved
loop-alternative-preserved c =
    let list = c.args.list.now in
    let at = c.loop-alternative.alternative-index in
    let x = c.alternative-item.result in
    let split : drop at list ≡ x ∷ drop (at + 1) list = drop_more list at x c.loop-alternative-test.true ∙ ap (λ (y : Alternative). y ∷ drop (at + 1) list) (sym c.alternative-item.is) in
    sym (hidden_later (outermost_of x) (map outermost_of (drop (at + 1) list)) (sym c.in_default.ensures))
    ∙ (ap (λ (ys : List Alternative). hidden_among (map outermost_of ys)) (sym split) ∙ c.loop-alternative.invariant)
