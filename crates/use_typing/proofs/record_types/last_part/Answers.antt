use Rattle.std.proofs.Common.{◌≡◌, ◌∙◌, Some, sym, ap, subst}
use Rattle.std.specs.Option.{option_copied}
use Rattle.type_nodes.specs.Nodes.{Tuple}
use Rattle.type_nodes.specs.Views.{numbers}
use Rattle.record_steps.specs.Recording.{IsLast}
use Rattle.use_typing.proofs.Recording.{last_there, last_absent}
use Rattle.use_typing.proofs.record_types.last_part.Goals as goal

pub returns-in-Some-last-clause-some : goal.returns-in-Some-last-clause-some
returns-in-Some-last-clause-some c =
    (numbers c.in-Some.parts.now, c.in-Some.ensures.some.1, last_there c.in-Some.parts.now c.in-Some-last.last.now (sym c.last.ensures.value ∙ ap option_copied c.in-Some-last.is))

pub returns-in-None-last-clause-none : goal.returns-in-None-last-clause-none
returns-in-None-last-clause-none c = λ ms z inside reads last.
    let f : Some (Tuple (numbers c.in-Some.parts.now)) ≡ Some (Tuple ms) = sym c.in-Some.ensures.some.1 ∙ reads in
    let g : numbers c.in-Some.parts.now ≡ ms = cc in
    last_absent c.in-Some.parts.now z (sym c.last.ensures.value ∙ ap option_copied c.in-None-last.is) (subst (λ xs. IsLast xs z) (sym g) last)

pub returns-in-None-clause-none : goal.returns-in-None-clause-none
returns-in-None-clause-none c = λ ms z inside reads last. c.in-None.ensures.none ms inside reads
