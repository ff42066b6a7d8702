use Rattle.typing_state.proofs.Going.{goes_refl}
use Rattle.std.proofs.Common.{◌≡◌, ◌∙◌, [], ◌∷◌, map, ap, sym}
use Rattle.std.proofs.lemmas.List.{nil_from_length}
use Rattle.pattern_typing.specs.Matching.{side_of}
use Rattle.pattern_typing.proofs.Carrying.{on_ok}
use Rattle.pattern_typing.proofs.Stepping.{later_asked}
use Rattle.pattern_typing.proofs.patterns.compare_sides.Goals as goal

pub returns-in-Some-clause-carries : goal.returns-in-Some-clause-carries
returns-in-Some-clause-carries c =
    on_ok c.compare_later.result _ _ (λ h. later_asked c.args.at.now c.compare_later.new.at c.args.env.now c.args.sides.now c.in-Some.rest.now c.in-Some.first.now c.in-Some.ensures.cases.0 h) c.compare_later.ensures.carries

pub returns-in-None-clause-carries : goal.returns-in-None-clause-carries
returns-in-None-clause-carries c = λ i x xs o os sides parts. absurd (let none : [] ≡ x ∷ xs = sym (ap (map side_of) (nil_from_length c.args.sides.now c.in-None.ensures.cases)) ∙ sides in cc)

pub returns-in-None-clause-goes : goal.returns-in-None-clause-goes
returns-in-None-clause-goes c = goes_refl c.args.at.now

pub returns-in-Some-clause-goes : goal.returns-in-Some-clause-goes
returns-in-Some-clause-goes c = c.compare_later.ensures.goes
