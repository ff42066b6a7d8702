use Rattle.std.proofs.Common.{◌≡◌, ◌∙◌, Option, Some, None, option_map, refl, sym, ap, subst}
use Rattle.std.specs.Prelude.{is_some as is_there}
use Rattle.std.proofs.lemmas.Result.{IfOk-weaker}
use Rattle.signature_model.specs.Records.{is_some}
use Rattle.row_parts.specs.Numbered.{first_in, operand_view}
use Rattle.syntax_tree.specs.View.{node_view, tok_of}
use Rattle.decl_typing.specs.Entering.{IsException}
use Rattle.decl_typing.proofs.decls.exception_entry.Goals as goal

-- something is there of what another function gives of it, too
same_there : {A B : Type 0} (f : A → B) (o : Option A) → is_there o ≡ is_some (option_map f o)
same_there f None = refl
same_there f (Some x) = refl

pub returns : goal.returns
returns c =
    IfOk-weaker c.owned-2.result _ _ (λ x is. subst (λ e. IsException e (tok_of c.args.name.now) c.args.root.0 (is_some (first_in c.args.number (node_view c.args.node.now) 2))) (sym is) (record {
      cell = c.in_ok-owned.field-0;
      what = refl;
      root = ap (λ k. k.root.0) c.in_ok-owned.ensures;
      takes = ap (λ k. k.has_argument) c.in_ok-owned.ensures ∙ c.is_some.ensures ∙ same_there operand_view c.first_operand.result ∙ ap is_some c.first_operand.ensures;
      name = c.in_ok-share-2.ensures;
      kind = refl;
      placed = refl;
    })) c.owned-2.ensures
