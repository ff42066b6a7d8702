use Rattle.typing_state.proofs.Going.{goes_refl}
use Rattle.std.proofs.Common.{◌≡◌, ◌∙◌, ◌++◌, ◌∷◌, map, refl, sym, ap, subst}
use Rattle.pattern_names.specs.PatternNames.{names_of_first}
use Rattle.pattern_typing.specs.Matching.{Binds, binds_of, side_of, side_view, tokens_of}
use Rattle.pattern_typing.proofs.Binding.{tokens_both}
use Rattle.pattern_typing.proofs.Carrying.{binds_both}
use Rattle.pattern_typing.proofs.patterns.first_side.Goals as goal

pub returns-in-Some-clause-names : goal.returns-in-Some-clause-names
returns-in-Some-clause-names c =
    let first = c.in-Some.first in
    subst (λ ss. Binds c.args.names.now.items c.append.new.list.items (names_of_first (map side_view ss))) (sym (sym c.into_iter.ensures.rest ∙ c.in-Some.ensures.cases.0))
    (record { bound = ap tokens_of c.in_ok-append-in-Some.ensures ∙ tokens_both c.args.names.now.items first.names.items })

pub returns-in-Some-clause-first : goal.returns-in-Some-clause-first
returns-in-Some-clause-first c = λ x xs is.
    let first = c.in-Some.first in
    let both : side_of c.in-Some.first ∷ map side_of c.next.new.self.rest.items ≡ x ∷ xs = sym (ap (map side_of) (sym c.into_iter.ensures.rest ∙ c.in-Some.ensures.cases.0)) ∙ is in
    let head : side_of c.in-Some.first ≡ x = cc in
    (ap (λ s. s.node) (sym head), ap binds_of c.in_ok-append-in-Some.ensures ∙ binds_both c.args.names.now.items first.names.items ∙ ap (λ s. binds_of c.args.names.now.items ++ s.names) head, refl)

pub returns-clause-goes : goal.returns-clause-goes
returns-clause-goes c = c.var.ensures.goes

pub returns-in-Some-clause-goes : goal.returns-in-Some-clause-goes
returns-in-Some-clause-goes c = goes_refl c.args.at.now

pub returns-in_err-append-in-Some-clause-goes : goal.returns-in_err-append-in-Some-clause-goes
returns-in_err-append-in-Some-clause-goes c = goes_refl c.args.at.now
