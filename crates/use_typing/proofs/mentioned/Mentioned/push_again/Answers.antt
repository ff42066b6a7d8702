use Rattle.std.proofs.Common.{◌≡◌, ◌++◌, [], ◌∷◌, true, sym, subst}
use Rattle.std.specs.Prelude.{OnOk}
use Rattle.syntax_tree.specs.View.{tok_of}
use Rattle.use_typing.specs.Labels.{is_named_in, toks_of}
use Rattle.use_typing.proofs.Mentioning.{kept_again}
use Rattle.use_typing.proofs.mentioned.Mentioned.push_again.Goals as goal

pub invariant_of-self : goal.invariant_of-self
invariant_of-self c =
    let named = subst (λ v. is_named_in (tok_of c.args.token.now).name (toks_of v.items) ≡ true) (sym c.self.view_is) c.requires.again in
    kept_again c.self.inside.places c.self.inside.tokens.items c.push.new.list.items c.push.result c.args.token c.push.ensures.pushed c.push.ensures.failed c.self.invariant named

pub returns : goal.returns
returns c = subst (λ v. OnOk c.push.result (c.push.new.list.items ≡ v.items ++ c.args.token ∷ [])) c.self.view_is c.push.ensures.pushed
