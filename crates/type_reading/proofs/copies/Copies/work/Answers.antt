use Rattle.std.proofs.Common.{◌≡◌, ◌∷◌, ◌++◌, [], subst}
use Rattle.level_unify.specs.Copies.{table_of}
use Rattle.type_reading.specs.Copying.{Stands}
use Rattle.typing_state.proofs.Going.{goes_refl, goes_trans}
use Rattle.typing_state.proofs.Silence.{silent_refl, silent_trans}
use Rattle.type_reading.proofs.Extending.{extends_refl, extends_trans}
use Rattle.type_reading.proofs.copies.Copies.work.Goals as goal

pub loop-init : goal.loop-init
loop-init c = record { goes = goes_refl c.args.at.now; silent = silent_refl c.args.at.now; extends = extends_refl c.args.at.now.store.nodes; stands = λ leaves aim s. s }

pub loop-preserved : goal.loop-preserved
loop-preserved c =
    let d = c.args.how.changes.now in
    let taken : c.loop.self.todo.items ≡ c.pop.new.self.items ++ c.in-Some.task ∷ [] = c.in-Some.ensures.items in
    record {
      goes = goes_trans c.args.at.now c.loop.at c.step.new.at c.loop.invariant.goes c.step.ensures.goes;
      silent = silent_trans c.args.at.now c.loop.at c.step.new.at c.loop.invariant.silent c.step.ensures.silent;
      extends = extends_trans c.args.at.now.store.nodes c.loop.at.store.nodes c.step.new.at.store.nodes c.loop.invariant.extends c.in_ok-step.ensures.extends;
      stands = λ leaves aim s. c.in_ok-step.ensures.stands leaves aim
          (subst (λ ts. Stands c.loop.at.store.nodes d (table_of c.loop.self.table) ts aim) taken (c.loop.invariant.stands leaves aim s));
    }

pub returns-clause-goes : goal.returns-clause-goes
returns-clause-goes c = c.loop.invariant.goes

pub returns-in_default-clause-goes : goal.returns-in_default-clause-goes
returns-in_default-clause-goes c = c.loop.invariant.goes

pub returns-in_err-step-clause-goes : goal.returns-in_err-step-clause-goes
returns-in_err-step-clause-goes c = goes_trans c.args.at.now c.loop.at c.step.new.at c.loop.invariant.goes c.step.ensures.goes
