use Rattle.std.proofs.Common.{◌∙◌, ◌<◌, Some, length, sym, ap, arith, if◌then◌else◌}
use Rattle.std.proofs.lemmas.List.{drop_all}
use Rattle.std.specs.Option.{option_or}
use Rattle.type_expressions.specs.Items.{parameter_in}
use Rattle.type_expressions.proofs.Settling.{first_parameter, next_parameter}
use Rattle.type_expressions.proofs.types.parameter_named.Goals.{then-is, else-is}
use Rattle.type_expressions.proofs.types.parameter_named.Goals as goal

pub loop-parameter-init : goal.loop-parameter-init
loop-parameter-init c = first_parameter c.args.name.now c.args.parameters.now

pub loop-parameter-preserved : goal.loop-parameter-preserved
loop-parameter-preserved c =
    let ps = c.args.parameters.now in
    let i = c.loop-parameter.parameter-index in
    let lt : i < length ps = let n = c.loop-parameter-test.true in omega arith in
    next_parameter c.args.name.now ps i c.parameter-item.result c.loop-parameter.found c.if-is.found lt c.parameter-item.is
    (elim c.if-is.branch [
      | then-is w ↦ ap (λ b. if b then Some c.parameter-item.result.node else c.loop-parameter.found) (sym c.is.ensures ∙ w.if-is.true) ∙ sym w.found-is
      | else-is w ↦ ap (λ b. if b then Some c.parameter-item.result.node else c.loop-parameter.found) (sym c.is.ensures ∙ w.if-is.false) ∙ sym w.found-is
    ])
    c.loop-parameter.invariant

pub returns : goal.returns
returns c =
    let none = drop_all c.loop-parameter.parameter-index c.args.parameters.now c.loop-parameter-test.false in
    sym (ap (λ ps. option_or (parameter_in c.args.name.now ps) c.loop-parameter.found) none) ∙ c.loop-parameter.invariant
