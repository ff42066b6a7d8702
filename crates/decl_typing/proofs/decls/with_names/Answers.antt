use Rattle.std.proofs.Common.{subst}
use Rattle.decl_typing.specs.Entries.{EntersNames}
use Rattle.decl_typing.proofs.Entries.{names_more, names_end, names_short}
use Rattle.decl_typing.proofs.decls.with_names.Goals as goal

pub loop-place-init : goal.loop-place-init
loop-place-init c = λ after names. subst (λ es. EntersNames c.args.parts.now c.args.declared.now es after) c.in_ok-inner.ensures names

pub loop-place-preserved : goal.loop-place-preserved
loop-place-preserved c = λ after names.
    let (some, there, both, at, last) = c.in-Some.ensures.lookup in
    c.loop-place.invariant after (names_more c.args.parts.now c.args.declared.now c.loop-place.place c.index-parts-place.result c.in-Some.declaration.now c.in_ok-type_entry.field-0 c.loop-place.inner c.in_ok-inner-2.inner after c.loop-place-test.true c.index-parts-place.is at.0 there c.in_ok-type_entry.ensures c.in_ok-inner-2.ensures names)

pub returns : goal.returns
returns c = c.loop-place.invariant c.loop-place.inner (names_end c.args.parts.now c.args.declared.now c.loop-place.place c.loop-place.inner c.loop-place-test.false)

pub returns-in_default : goal.returns-in_default
returns-in_default c =
    let (some, there, both, past, last) = c.in_default.ensures.lookup in
    c.loop-place.invariant c.loop-place.inner (names_short c.args.parts.now c.args.declared.now c.loop-place.place c.loop-place.inner past)
