use Rattle.std.proofs.Common.{◌∙◌, ◌<◌, length, map, drop, sym, ap, subst, arith, List}
use Rattle.std.proofs.lemmas.List.{drop_all}
use Rattle.row_parts.specs.declared.slots.Operand.{Operand}
use Rattle.row_parts.specs.Numbered.{operand_view}
use Rattle.type_nodes.specs.Views.{numbers}
use Rattle.typing_model.specs.Parts.{Pattern}
use Rattle.typing_state.proofs.Going.{goes_trans, goes_refl}
use Rattle.pattern_typing.specs.Matching.{binds_of}
use Rattle.pattern_rows.specs.Contracts.{patterns_of}
use Rattle.binding_rows.specs.CaseScopes.{names_added}
use Rattle.binding_rows.specs.Parameters.{ParametersSoFar}
use Rattle.binding_rows.proofs.Parameters.{parameters_none, parameters_all}
use Rattle.binding_steps.proofs.ParameterLaws.{parameter_step}
use Rattle.binding_steps.proofs.parameters.type_parameters.Goals as goal

pub loop-parameter-init : goal.loop-parameter-init
loop-parameter-init c =
    let ps = patterns_of c.args.at.now.item (map operand_view c.args.parameters.now) in
    record {
      goes = goes_refl c.args.at.now;
      carries = λ all. subst (λ q. ParametersSoFar c.args.at.now c.args.at.now c.args.env.now q ps ps (numbers c.new-types.result.items)) (sym c.in_ok-inner.ensures)
          (parameters_none c.args.at.now c.args.env.now ps (numbers c.new-types.result.items) (ap numbers c.new-types.ensures.items));
    }

pub loop-parameter-preserved : goal.loop-parameter-preserved
loop-parameter-preserved c =
    let all = c.args.parameters.now in
    let i = c.loop-parameter.parameter-index in
    let x = c.parameter-item.result in
    let lt : i < length all = let n = c.loop-parameter-test.true in omega arith in
    record {
      goes = goes_trans c.args.at.now c.loop-parameter.at c.type_parameter.new.at c.loop-parameter.invariant.goes c.type_parameter.ensures.goes;
      carries = parameter_step c.args.at.now c.loop-parameter.at c.type_parameter.new.at c.args.env.now c.loop-parameter.inner c.in_ok-inner-2.inner all i x c.in_ok-matched.matched.names.items c.loop-parameter.types.items c.push.new.list.items c.in_ok-matched.matched.ty lt c.parameter-item.is c.in_ok-push.ensures.pushed
          (c.in_ok-inner-2.ensures.scope ∙ ap (λ ns. names_added (binds_of ns) c.loop-parameter.inner) c.deref.ensures.value) c.loop-parameter.invariant.goes c.loop-parameter.invariant.carries c.in_ok-matched.ensures.carries;
    }

pub returns-clause-carries : goal.returns-clause-carries
returns-clause-carries c = λ all.
    let view : List Operand → List Pattern = λ os. patterns_of c.args.at.now.item (map operand_view os) in
    parameters_all c.args.at.now c.loop-parameter.at c.args.env.now c.loop-parameter.inner (view c.args.parameters.now) (view (drop c.loop-parameter.parameter-index c.args.parameters.now)) (numbers c.loop-parameter.types.items)
    (ap view (drop_all c.loop-parameter.parameter-index c.args.parameters.now c.loop-parameter-test.false)) (c.loop-parameter.invariant.carries all)
