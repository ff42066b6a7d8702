use Rattle.std.proofs.Common.{rules, arith, ◌≡◌, ◌∙◌, None, Some, map, option_map, refl, sym, ap, subst}
use Rattle.std.proofs.lemmas.Result.{IfOk-weaker}
use Rattle.text_terms.specs.Bytes.{str_bytes}
use Rattle.typing_state.proofs.Going.{goes_trans, goes_refl}
use Rattle.signature_match.specs.Blames.{blame_of}
use Rattle.signature_match.specs.Newest.{newest_module, newest_module_type}
use Rattle.signature_match.specs.Telling.{Tells, TellsWanted, TellsFirst, TellsEntry, value, type_name, exception, no_module, «module», no_module_type, module_type, from_hole, to_hole, structures, functors, for_functor, for_structure, wants}
use Rattle.signature_match.proofs.Firsts.{told_here, told_later, none_left}
use Rattle.signature_match.proofs.Opened.{is_value, is_type, is_exception, is_module, is_module_type, is_constructor, is_label, is_hole, is_structure, is_functor}
use Rattle.signature_match.proofs.Sides.{one_fails, other_decides, parameter_as, parameter_fails, bodies_decide}
use Rattle.signature_match.proofs.matching.+matching.Goals as goal

pub first_failing-returns-then-is_some-clause-told : goal.first_failing-returns-then-is_some-clause-told
first_failing-returns-then-is_some-clause-told t c =
    let A = c.args.actual.now in
    let k = c.args.round in
    let before = c.loop-entry.at.store.nodes in
    let after = c.match_entry.new.at.store.nodes in
    let failed = c.in_ok-failed.failed in
    let one : TellsEntry k before after A c.entry-item.result.value (option_map blame_of failed) = subst (λ x. TellsEntry k before after A x (option_map blame_of failed)) c.deref.ensures c.in_ok-failed.ensures.told in
    c.loop-entry.invariant.1 after (option_map blame_of failed)
    (told_here k before after A c.args.wanted.now c.loop-entry.entry-index c.entry-item.result failed c.loop-entry-test.true c.entry-item.is (sym c.is_some.ensures ∙ c.if-is_some.true) one)

pub first_failing-loop-entry-preserved : goal.first_failing-loop-entry-preserved
first_failing-loop-entry-preserved t c =
    let A = c.args.actual.now in
    let k = c.args.round in
    let before = c.loop-entry.at.store.nodes in
    let after = c.match_entry.new.at.store.nodes in
    let failed = c.in_ok-failed.failed in
    let one : TellsEntry k before after A c.entry-item.result.value (option_map blame_of failed) = subst (λ x. TellsEntry k before after A x (option_map blame_of failed)) c.deref.ensures c.in_ok-failed.ensures.told in (
      goes_trans _ _ _ c.loop-entry.invariant.0 c.in_ok-failed.ensures.goes,
      λ new told rest. c.loop-entry.invariant.1 new told
          (told_later k before after new A c.args.wanted.now c.loop-entry.entry-index c.entry-item.result failed told c.loop-entry-test.true c.entry-item.is (sym c.is_some.ensures ∙ c.if-is_some.false) one rest),
    )

pub first_failing-returns-clause-told : goal.first_failing-returns-clause-told
first_failing-returns-clause-told t c =
    let nodes = c.loop-entry.at.store.nodes in
    c.loop-entry.invariant.1 nodes None (none_left c.args.round nodes c.args.actual.now c.args.wanted.now c.loop-entry.entry-index (omega arith))

pub match_component-returns-in-Scheme-clause-told : goal.match_component-returns-in-Scheme-clause-told
match_component-returns-in-Scheme-clause-told t c =
    let is = is_value c.args.wanted.now.what c.in-Scheme.root c.in-Scheme.is in
    IfOk-weaker c.match_value.result _ _ (λ met told. value c.in-Scheme.root is told) c.match_value.ensures.told

pub match_component-returns-in-Type-clause-told : goal.match_component-returns-in-Type-clause-told
match_component-returns-in-Type-clause-told t c =
    let is = is_type c.args.wanted.now.what c.in-Type.declaration c.in-Type.is ∙ ap Some (sym c.deref.ensures) in
    IfOk-weaker c.match_type.result _ _ (λ met told. type_name c.deref.result.now is told) c.match_type.ensures.told

pub match_component-returns-in-Exception-clause-told : goal.match_component-returns-in-Exception-clause-told
match_component-returns-in-Exception-clause-told t c =
    let is = is_exception c.args.wanted.now.what c.in-Exception.constructor c.in-Exception.is ∙ ap Some (sym c.deref-in-Exception.ensures) in
    IfOk-weaker c.match_exception.result _ _ (λ met told. exception c.deref-in-Exception.result.now is told) c.match_exception.ensures.told

pub match_component-returns-in-None-clause-told : goal.match_component-returns-in-None-clause-told
match_component-returns-in-None-clause-told t c =
    let is = is_module c.args.wanted.now.what c.in-Module.sig c.in-Module.is in
    let none : newest_module (str_bytes c.args.wanted.now.name) c.args.actual.now ≡ None = search rules in
    no_module c.in-Module.sig.value is none (c.unless.ensures, refl)

pub match_component-returns-in_ok-inside-in-Some-clause-told : goal.match_component-returns-in_ok-inside-in-Some-clause-told
match_component-returns-in_ok-inside-in-Some-clause-told t c =
    let is = is_module c.args.wanted.now.what c.in-Module.sig c.in-Module.is ∙ ap Some (sym c.deref-in-Some-2.ensures) in
    let found : newest_module (str_bytes c.args.wanted.now.name) c.args.actual.now ≡ Some c.deref-in-Some.result.now = search rules in
    IfOk-weaker c.meets.result _ _ (λ met told. «module» c.deref-in-Some.result.now c.deref-in-Some-2.result.now is found told) c.meets.ensures.told

pub match_component-returns-in-None-newest_module_type-clause-told : goal.match_component-returns-in-None-newest_module_type-clause-told
match_component-returns-in-None-newest_module_type-clause-told t c =
    let is = is_module_type c.args.wanted.now.what c.in-ModuleType.template c.in-ModuleType.is in
    let none : newest_module_type (str_bytes c.args.wanted.now.name) c.args.actual.now ≡ None = search rules in
    no_module_type c.in-ModuleType.template.value is none (c.unless-in-None-newest_module_type.ensures, refl)

pub match_component-returns-in_ok-inside-in-Some-newest_module_type-clause-told : goal.match_component-returns-in_ok-inside-in-Some-newest_module_type-clause-told
match_component-returns-in_ok-inside-in-Some-newest_module_type-clause-told t c =
    let is = is_module_type c.args.wanted.now.what c.in-ModuleType.template c.in-ModuleType.is ∙ ap Some (sym c.deref-in-Some-newest_module_type-2.ensures) in
    let found : newest_module_type (str_bytes c.args.wanted.now.name) c.args.actual.now ≡ Some c.deref-in-Some-newest_module_type.result.now = search rules in
    IfOk-weaker c.match_both.result _ _ (λ met told. module_type c.deref-in-Some-newest_module_type.result.now c.deref-in-Some-newest_module_type-2.result.now is found told) c.match_both.ensures.told

pub match_component-returns-in-Constructor-clause-told : goal.match_component-returns-in-Constructor-clause-told
match_component-returns-in-Constructor-clause-told t c =
    is_constructor c.args.round c.args.at.now.store.nodes c.args.actual.now c.args.wanted.now c.in-Constructor.field-0 c.in-Constructor.field-1 c.in-Constructor.is

pub match_component-returns-in-Label-clause-told : goal.match_component-returns-in-Label-clause-told
match_component-returns-in-Label-clause-told t c = is_label c.args.round c.args.at.now.store.nodes c.args.actual.now c.args.wanted.now c.in-Label.field-0 c.in-Label.field-1 c.in-Label.is

pub meets-returns-in-Hole-default-clause-told : goal.meets-returns-in-Hole-default-clause-told
meets-returns-in-Hole-default-clause-told t c = from_hole refl (is_hole c.args.actual.now c.in-Hole-default.is-0)

pub meets-returns-in-Structure-Hole-clause-told : goal.meets-returns-in-Structure-Hole-clause-told
meets-returns-in-Structure-Hole-clause-told t c = to_hole refl (is_hole c.args.wanted.now c.in-Structure-Hole.is-1)

pub meets-returns-in-Functor-Hole-clause-told : goal.meets-returns-in-Functor-Hole-clause-told
meets-returns-in-Functor-Hole-clause-told t c = to_hole refl (is_hole c.args.wanted.now c.in-Functor-Hole.is-1)

pub meets-returns-in-Structure-Structure-clause-told : goal.meets-returns-in-Structure-Structure-clause-told
meets-returns-in-Structure-Structure-clause-told t c =
    let A = c.args.actual.now in
    let found = is_structure A c.in-Structure-Structure.field-0-0 c.in-Structure-Structure.is-0 in
    let asked = is_structure c.args.wanted.now c.in-Structure-Structure.components c.in-Structure-Structure.is-1 in
    IfOk-weaker c.first_failing.result _ _
    (λ met told. structures _ _ found asked (subst (λ rs. TellsFirst c.args.round c.args.at.now.store.nodes c.first_failing.new.at.store.nodes A (map (λ r. r.value) rs) (option_map blame_of met)) c.deref.ensures.value told))
    c.first_failing.ensures.told

pub meets-returns-in-Structure-Functor-clause-told : goal.meets-returns-in-Structure-Functor-clause-told
meets-returns-in-Structure-Functor-clause-told t c =
    let found = is_structure c.args.actual.now c.in-Structure-Functor.field-0-0 c.in-Structure-Functor.is-0 in
    let asked = is_functor c.args.wanted.now c.in-Structure-Functor.field-0-1 c.in-Structure-Functor.field-1-1 c.in-Structure-Functor.is-1 in
    subst (Tells c.args.round c.args.at.now.store.nodes c.args.at.now.store.nodes c.args.actual.now c.args.wanted.now) (sym c.unless.ensures) (for_functor _ refl found asked)

pub meets-returns-in_ok-met-in-Functor-Functor-clause-told : goal.meets-returns-in_ok-met-in-Functor-Functor-clause-told
meets-returns-in_ok-met-in-Functor-Functor-clause-told t c =
    let found = is_functor c.args.actual.now c.in-Functor-Functor.parameter c.in-Functor-Functor.body c.in-Functor-Functor.is-0 in
    let asked = is_functor c.args.wanted.now c.in-Functor-Functor.wanted_parameter c.in-Functor-Functor.wanted_body c.in-Functor-Functor.is-1 in
    subst (Tells c.args.round c.args.at.now.store.nodes c.functors_match.new.at.store.nodes c.args.actual.now c.args.wanted.now) (sym c.unless-in-Functor-Functor.ensures)
    (functors _ _ _ _ found asked c.in_ok-met-in-Functor-Functor.ensures.told)

pub meets-returns-in-Functor-Structure-clause-told : goal.meets-returns-in-Functor-Structure-clause-told
meets-returns-in-Functor-Structure-clause-told t c =
    let found = is_functor c.args.actual.now c.in-Functor-Structure.field-0-0 c.in-Functor-Structure.field-1-0 c.in-Functor-Structure.is-0 in
    let asked = is_structure c.args.wanted.now c.in-Functor-Structure.field-0-1 c.in-Functor-Structure.is-1 in
    subst (Tells c.args.round c.args.at.now.store.nodes c.args.at.now.store.nodes c.args.actual.now c.args.wanted.now) (sym c.unless-in-Functor-Structure.ensures) (for_structure _ refl found asked)

pub match_parameter-returns-clause-anew : goal.match_parameter-returns-clause-anew
match_parameter-returns-clause-anew t c = λ live. (c.made_at.new.at.store.nodes, c.in_ok-argument.ensures.sig live)

pub matches-returns-clause-told : goal.matches-returns-clause-told
matches-returns-clause-told t c =
    let mid = c.wanted_for.new.at.store.nodes in
    let new = c.meets.new.at.store.nodes in
    let A = c.args.actual.now in
    IfOk-weaker c.meets.result _ _
    (λ met told. wants mid c.in_ok-sig.sig.value c.in_ok-sig.ensures.wanted (subst (λ s. Tells c.args.round mid new A s (option_map blame_of met)) c.deref.ensures told))
    c.meets.ensures.told

pub match_both-returns-then-is_some-clause-told : goal.match_both-returns-then-is_some-clause-told
match_both-returns-then-is_some-clause-told t c =
    let old = c.args.at.now.store.nodes in
    let new = c.matches.new.at.store.nodes in
    let failed = c.in_ok-matches.field-0 in
    one_fails c.args.round old new c.args.actual.now c.args.wanted.now failed _ (sym c.is_some.ensures ∙ c.if-is_some.true)
    (subst (λ s. TellsWanted c.args.round old new s c.args.wanted.now (option_map blame_of failed)) c.deref.ensures c.in_ok-matches.ensures.told) c.unless.ensures

pub match_both-returns-clause-told : goal.match_both-returns-clause-told
match_both-returns-clause-told t c =
    let old = c.args.at.now.store.nodes in
    let mid = c.matches.new.at.store.nodes in
    let new = c.matches-2.new.at.store.nodes in
    let one = c.in_ok-matches.field-0 in
    let other = c.in_ok-matches-2.field-0 in
    other_decides c.args.round old mid new c.args.actual.now c.args.wanted.now one other c.is_none-met.result _ (sym c.is_some.ensures ∙ c.if-is_some.false)
    (subst (λ s. TellsWanted c.args.round old mid s c.args.wanted.now (option_map blame_of one)) c.deref.ensures c.in_ok-matches.ensures.told)
    (subst (λ s. TellsWanted c.args.round mid new s c.args.actual.now (option_map blame_of other)) c.deref-2.ensures c.in_ok-matches-2.ensures.told)
    c.is_none-met.ensures c.unless-2.ensures

pub functors_match-returns-then-not-met-clause-told : goal.functors_match-returns-then-not-met-clause-told
functors_match-returns-then-not-met-clause-told t c =
    let k = c.args.round in
    let old = c.args.at.now.store.nodes in
    let new = c.match_parameter.new.at.store.nodes in
    let argument = c.in_ok-argument.argument in
    parameter_fails k old new c.args.actual.0.now.value c.args.actual.1.now.value c.args.wanted.0.now.value c.args.wanted.1.now.value argument c.in_ok-argument.met
    (parameter_as k c.in-Some-Some.inner c.in-Some-Some.number old new c.args.actual.0.now.value c.deref.result.now c.args.wanted.0.now.value c.deref-2.result.now argument c.in_ok-argument.met
    c.in-Some-Some.ensures.1 c.in-Some-Some.ensures' c.deref.ensures c.deref-2.ensures c.in_ok-argument.ensures.told)
    c.if-not-met.true

pub functors_match-returns-clause-told : goal.functors_match-returns-clause-told
functors_match-returns-clause-told t c =
    let k = c.args.round in
    let old = c.args.at.now.store.nodes in
    let left = c.match_parameter.new.at.store.nodes in
    let argument = c.in_ok-argument.argument in
    bodies_decide k c.in-Some-Some.inner c.in-Some-Some.number old left c.bodies.new.at.store.nodes c.matches.new.at.store.nodes
    c.args.actual.0.now.value c.args.actual.1.now.value c.args.wanted.0.now.value c.args.wanted.1.now.value argument c.in_ok-argument.met
    c.deref-3.result.now c.deref-4.result.now c.in_ok-body.body.value c.in_ok-body.wanted_body c.in_ok-matches.field-0 c.is_none.result
    c.in-Some-Some.ensures.1 c.in-Some-Some.ensures'
    (parameter_as k c.in-Some-Some.inner c.in-Some-Some.number old left c.args.actual.0.now.value c.deref.result.now c.args.wanted.0.now.value c.deref-2.result.now argument c.in_ok-argument.met
    c.in-Some-Some.ensures.1 c.in-Some-Some.ensures' c.deref.ensures c.deref-2.ensures c.in_ok-argument.ensures.told)
    c.if-not-met.false c.deref-3.ensures c.in_ok-body.ensures.are c.deref-4.ensures c.in_ok-matches.ensures.told c.is_none.ensures

pub first_failing-returns-clause-goes : goal.first_failing-returns-clause-goes
first_failing-returns-clause-goes t c = c.loop-entry.invariant.0

pub first_failing-returns-in_err-failed-clause-goes : goal.first_failing-returns-in_err-failed-clause-goes
first_failing-returns-in_err-failed-clause-goes t c = goes_trans c.args.at.now c.loop-entry.at c.match_entry.new.at c.loop-entry.invariant.0 c.match_entry.ensures.goes

pub first_failing-returns-in_err-inside-clause-goes : goal.first_failing-returns-in_err-inside-clause-goes
first_failing-returns-in_err-inside-clause-goes t c = c.loop-entry.invariant.0

pub first_failing-returns-then-is_some-clause-goes : goal.first_failing-returns-then-is_some-clause-goes
first_failing-returns-then-is_some-clause-goes t c = goes_trans c.args.at.now c.loop-entry.at c.match_entry.new.at c.loop-entry.invariant.0 c.match_entry.ensures.goes

pub functors_match-returns-clause-goes : goal.functors_match-returns-clause-goes
functors_match-returns-clause-goes t c = goes_trans c.args.at.now c.bodies.new.at c.matches.new.at (goes_trans c.args.at.now c.match_parameter.new.at c.bodies.new.at c.match_parameter.ensures.goes c.bodies.ensures.goes) c.matches.ensures.goes

pub functors_match-returns-in_default-2-clause-goes : goal.functors_match-returns-in_default-2-clause-goes
functors_match-returns-in_default-2-clause-goes t c = goes_refl c.args.at.now

pub functors_match-returns-in_default-clause-goes : goal.functors_match-returns-in_default-clause-goes
functors_match-returns-in_default-clause-goes t c = goes_refl c.args.at.now

pub functors_match-returns-in_err-argument-clause-goes : goal.functors_match-returns-in_err-argument-clause-goes
functors_match-returns-in_err-argument-clause-goes t c = c.match_parameter.ensures.goes

pub functors_match-returns-in_err-body-clause-goes : goal.functors_match-returns-in_err-body-clause-goes
functors_match-returns-in_err-body-clause-goes t c = goes_trans c.args.at.now c.match_parameter.new.at c.bodies.new.at c.match_parameter.ensures.goes c.bodies.ensures.goes

pub functors_match-returns-in_err-inside-clause-goes : goal.functors_match-returns-in_err-inside-clause-goes
functors_match-returns-in_err-inside-clause-goes t c = goes_trans c.args.at.now c.match_parameter.new.at c.bodies.new.at c.match_parameter.ensures.goes c.bodies.ensures.goes

pub functors_match-returns-in_err-matches-clause-goes : goal.functors_match-returns-in_err-matches-clause-goes
functors_match-returns-in_err-matches-clause-goes t c = goes_trans c.args.at.now c.bodies.new.at c.matches.new.at (goes_trans c.args.at.now c.match_parameter.new.at c.bodies.new.at c.match_parameter.ensures.goes c.bodies.ensures.goes) c.matches.ensures.goes

pub functors_match-returns-then-not-met-clause-goes : goal.functors_match-returns-then-not-met-clause-goes
functors_match-returns-then-not-met-clause-goes t c = c.match_parameter.ensures.goes

pub match_both-returns-clause-goes : goal.match_both-returns-clause-goes
match_both-returns-clause-goes t c = goes_trans c.args.at.now c.matches.new.at c.matches-2.new.at c.matches.ensures.goes c.matches-2.ensures.goes

pub match_both-returns-in_err-inside-2-clause-goes : goal.match_both-returns-in_err-inside-2-clause-goes
match_both-returns-in_err-inside-2-clause-goes t c = c.matches.ensures.goes

pub match_both-returns-in_err-inside-clause-goes : goal.match_both-returns-in_err-inside-clause-goes
match_both-returns-in_err-inside-clause-goes t c = goes_refl c.args.at.now

pub match_both-returns-in_err-matches-2-clause-goes : goal.match_both-returns-in_err-matches-2-clause-goes
match_both-returns-in_err-matches-2-clause-goes t c = goes_trans c.args.at.now c.matches.new.at c.matches-2.new.at c.matches.ensures.goes c.matches-2.ensures.goes

pub match_both-returns-in_err-matches-clause-goes : goal.match_both-returns-in_err-matches-clause-goes
match_both-returns-in_err-matches-clause-goes t c = c.matches.ensures.goes

pub match_both-returns-then-is_some-clause-goes : goal.match_both-returns-then-is_some-clause-goes
match_both-returns-then-is_some-clause-goes t c = c.matches.ensures.goes

pub match_component-returns-in-Constructor-clause-goes : goal.match_component-returns-in-Constructor-clause-goes
match_component-returns-in-Constructor-clause-goes t c = goes_refl c.args.at.now

pub match_component-returns-in-Exception-clause-goes : goal.match_component-returns-in-Exception-clause-goes
match_component-returns-in-Exception-clause-goes t c = c.match_exception.ensures.goes

pub match_component-returns-in-Label-clause-goes : goal.match_component-returns-in-Label-clause-goes
match_component-returns-in-Label-clause-goes t c = goes_refl c.args.at.now

pub match_component-returns-in-None-clause-goes : goal.match_component-returns-in-None-clause-goes
match_component-returns-in-None-clause-goes t c = goes_refl c.args.at.now

pub match_component-returns-in-None-newest_module_type-clause-goes : goal.match_component-returns-in-None-newest_module_type-clause-goes
match_component-returns-in-None-newest_module_type-clause-goes t c = goes_refl c.args.at.now

pub match_component-returns-in-Scheme-clause-goes : goal.match_component-returns-in-Scheme-clause-goes
match_component-returns-in-Scheme-clause-goes t c = c.match_value.ensures.goes

pub match_component-returns-in-Type-clause-goes : goal.match_component-returns-in-Type-clause-goes
match_component-returns-in-Type-clause-goes t c = c.match_type.ensures.goes

pub match_component-returns-in_err-inside-in-Some-clause-goes : goal.match_component-returns-in_err-inside-in-Some-clause-goes
match_component-returns-in_err-inside-in-Some-clause-goes t c = goes_refl c.args.at.now

pub match_component-returns-in_err-inside-in-Some-newest_module_type-clause-goes : goal.match_component-returns-in_err-inside-in-Some-newest_module_type-clause-goes
match_component-returns-in_err-inside-in-Some-newest_module_type-clause-goes t c = goes_refl c.args.at.now

pub match_component-returns-in_ok-inside-in-Some-clause-goes : goal.match_component-returns-in_ok-inside-in-Some-clause-goes
match_component-returns-in_ok-inside-in-Some-clause-goes t c = c.meets.ensures.goes

pub match_component-returns-in_ok-inside-in-Some-newest_module_type-clause-goes : goal.match_component-returns-in_ok-inside-in-Some-newest_module_type-clause-goes
match_component-returns-in_ok-inside-in-Some-newest_module_type-clause-goes t c = c.match_both.ensures.goes

pub match_entry-returns-in-None-clause-goes : goal.match_entry-returns-in-None-clause-goes
match_entry-returns-in-None-clause-goes t c = c.match_component.ensures.goes

pub match_entry-returns-in_err-inside-in-Some-clause-goes : goal.match_entry-returns-in_err-inside-in-Some-clause-goes
match_entry-returns-in_err-inside-in-Some-clause-goes t c = c.match_component.ensures.goes

pub match_entry-returns-in_err-match_component-clause-goes : goal.match_entry-returns-in_err-match_component-clause-goes
match_entry-returns-in_err-match_component-clause-goes t c = c.match_component.ensures.goes

pub match_entry-returns-in_ok-inside-in-Some-clause-goes : goal.match_entry-returns-in_ok-inside-in-Some-clause-goes
match_entry-returns-in_ok-inside-in-Some-clause-goes t c = c.match_component.ensures.goes

pub match_parameter-returns-clause-goes : goal.match_parameter-returns-clause-goes
match_parameter-returns-clause-goes t c = goes_trans c.args.at.now c.made_at.new.at c.matches.new.at c.made_at.ensures.goes c.matches.ensures.goes

pub match_parameter-returns-in_err-argument-clause-goes : goal.match_parameter-returns-in_err-argument-clause-goes
match_parameter-returns-in_err-argument-clause-goes t c = c.made_at.ensures.goes

pub match_parameter-returns-in_err-failed-clause-goes : goal.match_parameter-returns-in_err-failed-clause-goes
match_parameter-returns-in_err-failed-clause-goes t c = goes_trans c.args.at.now c.made_at.new.at c.matches.new.at c.made_at.ensures.goes c.matches.ensures.goes

pub match_parameter-returns-in_err-inside-clause-goes : goal.match_parameter-returns-in_err-inside-clause-goes
match_parameter-returns-in_err-inside-clause-goes t c = c.made_at.ensures.goes

pub matches-returns-clause-goes : goal.matches-returns-clause-goes
matches-returns-clause-goes t c = goes_trans c.args.at.now c.wanted_for.new.at c.meets.new.at c.wanted_for.ensures.goes c.meets.ensures.goes

pub matches-returns-in_err-inside-clause-goes : goal.matches-returns-in_err-inside-clause-goes
matches-returns-in_err-inside-clause-goes t c = c.wanted_for.ensures.goes

pub matches-returns-in_err-sig-clause-goes : goal.matches-returns-in_err-sig-clause-goes
matches-returns-in_err-sig-clause-goes t c = c.wanted_for.ensures.goes

pub meets-returns-in-Functor-Hole-clause-goes : goal.meets-returns-in-Functor-Hole-clause-goes
meets-returns-in-Functor-Hole-clause-goes t c = goes_refl c.args.at.now

pub meets-returns-in-Functor-Structure-clause-goes : goal.meets-returns-in-Functor-Structure-clause-goes
meets-returns-in-Functor-Structure-clause-goes t c = goes_refl c.args.at.now

pub meets-returns-in-Hole-default-clause-goes : goal.meets-returns-in-Hole-default-clause-goes
meets-returns-in-Hole-default-clause-goes t c = goes_refl c.args.at.now

pub meets-returns-in-Structure-Functor-clause-goes : goal.meets-returns-in-Structure-Functor-clause-goes
meets-returns-in-Structure-Functor-clause-goes t c = goes_refl c.args.at.now

pub meets-returns-in-Structure-Hole-clause-goes : goal.meets-returns-in-Structure-Hole-clause-goes
meets-returns-in-Structure-Hole-clause-goes t c = goes_refl c.args.at.now

pub meets-returns-in-Structure-Structure-clause-goes : goal.meets-returns-in-Structure-Structure-clause-goes
meets-returns-in-Structure-Structure-clause-goes t c = c.first_failing.ensures.goes

pub meets-returns-in_err-inside-in-Functor-Functor-clause-goes : goal.meets-returns-in_err-inside-in-Functor-Functor-clause-goes
meets-returns-in_err-inside-in-Functor-Functor-clause-goes t c = goes_refl c.args.at.now

pub meets-returns-in_err-met-in-Functor-Functor-clause-goes : goal.meets-returns-in_err-met-in-Functor-Functor-clause-goes
meets-returns-in_err-met-in-Functor-Functor-clause-goes t c = c.functors_match.ensures.goes

pub meets-returns-in_ok-met-in-Functor-Functor-clause-goes : goal.meets-returns-in_ok-met-in-Functor-Functor-clause-goes
meets-returns-in_ok-met-in-Functor-Functor-clause-goes t c = c.functors_match.ensures.goes
