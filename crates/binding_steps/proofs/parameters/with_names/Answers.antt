use Rattle.std.proofs.Common.{◌∙◌, ◌<◌, length, arith, sym, ap}
use Rattle.std.proofs.lemmas.List.{drop_all}
use Rattle.pattern_typing.specs.Matching.{binds_of}
use Rattle.binding_rows.specs.CaseScopes.{names_added}
use Rattle.binding_steps.proofs.ParameterLaws.{name_step}
use Rattle.binding_steps.proofs.parameters.with_names.Goals as goal

pub loop-name-init : goal.loop-name-init
loop-name-init c = ap (names_added (binds_of c.args.names.now)) c.in_ok-inner.ensures

pub loop-name-preserved : goal.loop-name-preserved
loop-name-preserved c =
    let lt : c.loop-name.name-index < length c.args.names.now = let n = c.loop-name-test.true in omega arith in
    name_step c.args.names.now c.loop-name.name-index c.name-item.result _ c.args.env.now c.loop-name.inner _ lt c.name-item.is c.in_ok-share_entry.ensures c.in_ok-inner-2.ensures c.loop-name.invariant

pub returns : goal.returns
returns c = record { scope = ap (λ ns. names_added (binds_of ns) c.loop-name.inner) (sym (drop_all c.loop-name.name-index c.args.names.now c.loop-name-test.false)) ∙ c.loop-name.invariant }
