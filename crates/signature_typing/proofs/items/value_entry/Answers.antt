use Rattle.std.proofs.Common.{refl, sym, subst}
use Rattle.std.proofs.lemmas.Result.{IfOk-weaker}
use Rattle.syntax_tree.specs.View.{tok_of}
use Rattle.signature_typing.specs.Values.{IsValue}
use Rattle.signature_typing.proofs.items.value_entry.Goals as goal

pub returns : goal.returns
returns c =
    IfOk-weaker c.owned.result _ _ (λ x is. subst (λ e. IsValue e (tok_of c.args.name.now) c.args.root.0) (sym is) (record {
      cell = c.args.root;
      what = refl;
      root = refl;
      name = c.in_ok-share.ensures;
      kind = refl;
      placed = refl;
    })) c.owned.ensures
