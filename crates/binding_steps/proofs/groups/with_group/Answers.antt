use Rattle.std.proofs.Common.{◌∙◌, ◌+◌, ◌<◌, length, map, drop, ap, arith}
use Rattle.std.proofs.lemmas.List.{drop_all}
use Rattle.use_typing.proofs.Reading.{rest_read}
use Rattle.pattern_typing.specs.Matching.{binds_of}
use Rattle.binding_rows.specs.CaseScopes.{names_added}
use Rattle.binding_rows.specs.Groups.{names_opened}
use Rattle.binding_rows.proofs.Together.{scope_step, scope_end}
use Rattle.binding_steps.specs.Bindings.{opened_of}
use Rattle.binding_steps.proofs.groups.with_group.Goals as goal

pub loop-one-init : goal.loop-one-init
loop-one-init c = ap (names_added (names_opened (map opened_of c.args.opened.now))) c.in_ok-within.ensures

pub loop-one-preserved : goal.loop-one-preserved
loop-one-preserved c =
    let all = c.args.opened.now in
    let i = c.loop-one.one-index in
    let x = c.one-item.result in
    let lt : i < length all = let n = c.loop-one-test.true in omega arith in
    scope_step c.loop-one.within c.in_ok-within-2.within (names_added (names_opened (map opened_of all)) c.args.env.now) (map opened_of (drop i all)) (map opened_of (drop (i + 1) all)) (opened_of x) (rest_read opened_of all i x lt c.one-item.is)
    (c.in_ok-within-2.ensures.scope ∙ ap (λ ns. names_added (binds_of ns) c.loop-one.within) c.deref.ensures.value) c.loop-one.invariant

pub returns : goal.returns
returns c =
    let all = c.args.opened.now in
    let i = c.loop-one.one-index in
    record { scope = scope_end c.loop-one.within (names_added (names_opened (map opened_of all)) c.args.env.now) (map opened_of (drop i all)) (ap (map opened_of) (drop_all i all c.loop-one-test.false)) c.loop-one.invariant }
