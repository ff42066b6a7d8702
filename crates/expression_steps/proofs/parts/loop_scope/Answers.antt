use Rattle.std.proofs.Common.{◌∙◌, sym, ap, subst}
use Rattle.std.specs.Prelude.{IfOk, option_map}
use denote.Ref.{Bor}
use Rattle.syntax_tree.specs.declared.tree.Token.{Token}
use Rattle.syntax_tree.specs.View.{tok_of}
use Rattle.typing_rows.specs.Loops.{IsLoopScope}
use Rattle.expression_steps.proofs.parts.loop_scope.Goals as goal

pub returns-in-Some : goal.returns-in-Some
returns-in-Some c =
    subst (λ o. IfOk c.scope_of_name.result (λ s. IsLoopScope c.args.at.now.constants.int o c.args.env.now s.env)) (ap (option_map (λ (t : Bor Token). tok_of t.now)) (sym c.in-Some.is) ∙ c.token.ensures) c.scope_of_name.ensures

pub returns-in_ok-share-in-None : goal.returns-in_ok-share-in-None
returns-in_ok-share-in-None c =
    subst (λ o. IsLoopScope c.args.at.now.constants.int o c.args.env.now c.in_ok-share-in-None.field-0) (ap (option_map (λ (t : Bor Token). tok_of t.now)) (sym c.in-None.is) ∙ c.token.ensures) c.in_ok-share-in-None.ensures
