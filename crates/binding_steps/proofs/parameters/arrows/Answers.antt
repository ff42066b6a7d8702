use Rattle.std.proofs.Common.{◌≡◌, ◌<◌, ◌≤◌, length, drop, subst, arith}
use Rattle.type_nodes.specs.Views.{numbers}
use Rattle.typing_state.proofs.Going.{goes_trans, goes_refl}
use Rattle.typing_state.proofs.Silence.{silent_refl, silent_trans, store_silent}
use Rattle.binding_rows.specs.Parameters.{MakesArrows}
use Rattle.binding_steps.proofs.ParameterLaws.{arrow_start, arrow_step}
use Rattle.binding_steps.proofs.parameters.arrows.Goals as goal

pub loop-place-init : goal.loop-place-init
loop-place-init c = record { goes = goes_refl c.args.at.now; silent = silent_refl c.args.at.now; carries = arrow_start c.args.at.now c.args.parameters.now c.args.to.0 }

pub loop-place-preserved : goal.loop-place-preserved
loop-place-preserved c =
    let j = c.loop-place.place in
    let some : 0 < j = let n = c.loop-place-test.true in omega arith in
    let inside : j ≤ length c.args.parameters.now = let n = c.loop-place.auto.place in omega arith in
    record {
      goes = goes_trans c.args.at.now c.loop-place.at c.arrow.new.self c.loop-place.invariant.goes c.arrow.ensures.goes;
      silent = silent_trans c.args.at.now c.loop-place.at c.arrow.new.self c.loop-place.invariant.silent (store_silent c.loop-place.at c.arrow.new.self c.arrow.ensures.rest);
      carries = arrow_step c.args.at.now c.loop-place.at c.arrow.new.self c.args.parameters.now j _ c.args.to.0 c.loop-place.ty.0 c.in_ok-ty.ty.0 some inside c.loop-place.invariant.carries c.in_ok-ty.ensures.made c.arrow.ensures.rest;
    }

pub returns-clause-carries : goal.returns-clause-carries
returns-clause-carries c =
    let none : c.loop-place.place ≡ 0 = let n = c.loop-place-test.false in omega arith in
    subst (λ i. MakesArrows c.args.at.now c.loop-place.at (numbers (drop i c.args.parameters.now)) c.args.to.0 c.loop-place.ty.0) none c.loop-place.invariant.carries
