use Rattle.std.proofs.Common.{◌+◌, ◌<◌, length, map, drop, ap, subst, arith}
use Rattle.std.proofs.lemmas.List.{drop_all}
use Rattle.type_nodes.specs.Nodes.{bound_level}
use Rattle.typing_state.proofs.Going.{goes_trans, goes_refl}
use Rattle.typing_state.proofs.Silence.{silent_refl, silent_trans}
use Rattle.use_typing.proofs.Reading.{rest_read}
use Rattle.binding_rows.specs.Scopes.{InsideNodes}
use Rattle.binding_rows.proofs.ItemTurns.{inside_none, inside_then, names_start, names_more, names_end}
use Rattle.binding_steps.specs.Bindings.{closing_of, name_nodes}
use Rattle.binding_steps.proofs.closing.limit_names.Goals as goal

pub loop-one-init : goal.loop-one-init
loop-one-init c = record { goes = goes_refl c.args.at.now; silent = silent_refl c.args.at.now; inside = names_start (map closing_of c.args.bound.now) (inside_none c.args.at.now bound_level c.args.scope) }

pub loop-one-preserved : goal.loop-one-preserved
loop-one-preserved c =
    let all = c.args.bound.now in
    let i = c.loop-one.one-index in
    let x = c.one-item.result in
    let lt : i < length all = let n = c.loop-one-test.true in omega arith in
    let inside : InsideNodes c.loop-one.at c.limit_each.new.at bound_level c.args.scope (name_nodes x.matched.names.items) = subst (λ ns. InsideNodes c.loop-one.at c.limit_each.new.at bound_level c.args.scope (name_nodes ns)) c.deref.ensures.value c.in_ok-limit_each.ensures.inside in
    record {
      goes = goes_trans c.args.at.now c.loop-one.at c.limit_each.new.at c.loop-one.invariant.goes c.limit_each.ensures.goes;
      silent = silent_trans c.args.at.now c.loop-one.at c.limit_each.new.at c.loop-one.invariant.silent c.limit_each.ensures.silent;
      inside = names_more (map closing_of all) (map closing_of (drop i all)) (map closing_of (drop (i + 1) all)) (closing_of x) (rest_read closing_of all i x lt c.one-item.is) c.loop-one.invariant.inside (λ ms first. inside_then first inside);
    }

pub returns-clause-inside : goal.returns-clause-inside
returns-clause-inside c =
    let all = c.args.bound.now in
    let i = c.loop-one.one-index in
    names_end (map closing_of all) (map closing_of (drop i all)) (ap (map closing_of) (drop_all i all c.loop-one-test.false)) c.loop-one.invariant.inside
