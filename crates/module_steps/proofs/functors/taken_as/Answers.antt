use Rattle.std.proofs.Common.{sym, subst, Bor}
use Rattle.std.specs.Prelude.{Option, Some, option_map, IfOk}
use Rattle.std.proofs.lemmas.Result.{IfOk-weaker}
use Rattle.syntax_tree.specs.declared.Token.{Token}
use Rattle.env_table.specs.declared.entries.Template.{Template}
use Rattle.module_steps.specs.Modules.{TakesName}
use Rattle.module_steps.proofs.functors.taken_as.Goals as goal

pub returns-in-Some-clause-named : goal.returns-in-Some-clause-named
returns-in-Some-clause-named c =
    subst (λ (o : Option (Bor Token)). IfOk c.taken_named.result (λ p. TakesName (option_map (λ t. t.now) o) p.template.value c.args.env.now p)) (sym c.in-Some.is)
    (IfOk-weaker c.taken_named.result _ _ (λ p is. subst (λ (t : Template). TakesName (Some c.in-Some.name.now) t c.args.env.now p) (sym is.0) is) c.taken_named.ensures)

pub returns-in-Some-clause-goes : goal.returns-in-Some-clause-goes
returns-in-Some-clause-goes c = c.made_at.ensures.goes

pub returns-in_err-anew-clause-goes : goal.returns-in_err-anew-clause-goes
returns-in_err-anew-clause-goes c = c.made_at.ensures.goes

pub returns-in_err-share-in-None-clause-goes : goal.returns-in_err-share-in-None-clause-goes
returns-in_err-share-in-None-clause-goes c = c.made_at.ensures.goes

pub returns-in_err-template-clause-goes : goal.returns-in_err-template-clause-goes
returns-in_err-template-clause-goes c = c.made_at.ensures.goes

pub returns-in_ok-share-in-None-clause-goes : goal.returns-in_ok-share-in-None-clause-goes
returns-in_ok-share-in-None-clause-goes c = c.made_at.ensures.goes
