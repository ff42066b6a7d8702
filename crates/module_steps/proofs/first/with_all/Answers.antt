use Rattle.std.proofs.Common.{◌∙◌, ◌+◌, List, refl, sym, subst, drop, arith}
use Rattle.std.proofs.lemmas.List.{drop_more, drop_all}
use Rattle.env_table.specs.declared.entries.Entry.{Entry}
use Rattle.typing_state.specs.declared.built_ins.BuiltIn.TheVariants.{Int}
use Rattle.typing_state.proofs.Going.{goes_refl, goes_trans}
use Rattle.first_laws.specs.Built.{EntersAll}
use Rattle.module_steps.specs.First.{HasBuiltIns}
use Rattle.module_steps.proofs.first.with_all.Goals as goal

pub loop-which-init : goal.loop-which-init
loop-which-init c = record {
  entries = λ env h. subst (λ (b : List Entry). HasBuiltIns c.args.all.now b env) c.empty-env.ensures h;
  declares = λ level. (level, λ b env h. subst (λ (before : List Entry). EntersAll c.args.all.now c.args.at.now before b env) c.empty-env.ensures h);
  goes = goes_refl _;
}

pub loop-which-preserved : goal.loop-which-preserved
loop-which-preserved c =
    let all = c.args.all.now in
    let i = c.loop-which.which-index in
    record {
      entries = λ env h. c.loop-which.invariant.entries env (subst (λ bs. HasBuiltIns bs c.loop-which.env env) (sym (drop_more all i Int c.loop-which-test.true))
          (c.in_ok-entry.entry.value, c.in_ok-entry.ensures.entry, subst (λ (b : List Entry). HasBuiltIns (drop (i + 1) all) b env) c.in_ok-env.ensures h));
      declares = λ level.
          let (here, go) = c.loop-which.invariant.declares level in
          let one = c.in_ok-entry.ensures.declares here in (
            one.declared.rest.level ∙ here,
            λ b env h. go b env (subst (λ bs. EntersAll bs c.loop-which.at c.loop-which.env b env) (sym (drop_more all i Int c.loop-which-test.true))
                (c.built_in_entry.new.at, c.in_ok-entry.entry.value, one, subst (λ (before : List Entry). EntersAll (drop (i + 1) all) c.built_in_entry.new.at before b env) c.in_ok-env.ensures h)),
          );
      goes = goes_trans _ _ _ c.loop-which.invariant.goes c.in_ok-entry.ensures.goes;
    }

pub returns-clause-entries : goal.returns-clause-entries
returns-clause-entries c =
    c.loop-which.invariant.entries c.loop-which.env (subst (λ bs. HasBuiltIns bs c.loop-which.env c.loop-which.env) (sym (drop_all c.loop-which.which-index c.args.all.now (omega arith))) refl)

pub returns-clause-declares : goal.returns-clause-declares
returns-clause-declares c = λ level.
    let (here, go) = c.loop-which.invariant.declares level in
    go c.loop-which.at c.loop-which.env (subst (λ bs. EntersAll bs c.loop-which.at c.loop-which.env c.loop-which.at c.loop-which.env) (sym (drop_all c.loop-which.which-index c.args.all.now (omega arith))) (refl, refl))

pub returns-clause-goes : goal.returns-clause-goes
returns-clause-goes c = c.loop-which.invariant.goes

pub returns-in_err-entry-clause-goes : goal.returns-in_err-entry-clause-goes
returns-in_err-entry-clause-goes c = goes_trans c.args.at.now c.loop-which.at c.built_in_entry.new.at c.loop-which.invariant.goes c.built_in_entry.ensures.goes

pub returns-in_err-env-clause-goes : goal.returns-in_err-env-clause-goes
returns-in_err-env-clause-goes c = goes_trans c.args.at.now c.loop-which.at c.built_in_entry.new.at c.loop-which.invariant.goes c.built_in_entry.ensures.goes
