use Rattle.std.proofs.Common.{◌≡◌, ℕ, refl, sym, ◌∙◌, ap}
use Rattle.tree_model.specs.Slots.{is_operand}
use Rattle.type_model.specs.Types.{Typ, Var, Arrow}
use Rattle.grammar_model.specs.Rows.{chain_of, grower_of}
use Rattle.grammar_model.specs.Ocaml.{rows}
use Rattle.grammar_model.specs.Tables.{first_place}
use Rattle.grammar_model.specs.Keys.{kind_key, key_of}
use Rattle.recovery_model.specs.Steps as rules
use Rattle.recovery_model.specs.Recovery.{step, close, recover}
use Rattle.typing_model.specs.BuiltIns.{constant_by}
use Rattle.typing_model.specs.Patterns.{pattern_row}
use Rattle.typing_model.specs.Expressions.{expression_row}
use Rattle.typing_model.specs.TypeExpressions.{type_row}
use Rattle.typing_model.specs.Modules.{module_expression_row, module_type_row, item_row, signature_item_row}
use Rattle.model_checks.specs.Typings.{first}
use Rattle.model_checks.specs.Chosen.{identity_types, identity_choice}
use Rattle.model_checks.proofs.Tables.{at_all}
use Rattle.model_checks.proofs.Uses.{use_of_one}
use Rattle.model_checks.proofs.typings.identity_is_principal.Goals as goal

pub returns : goal.returns
unfolding recover step close rules.step rows chain_of grower_of first_place kind_key key_of is_operand constant_by pattern_row expression_row type_row module_expression_row module_type_row item_row signature_item_row
returns c = record {
  fits = record {
    choice = identity_choice;
    chosen = λ n. refl;
    holds = (tt, (tt, (tt, (tt, ((λ h. refl), (tt, (tt, ((λ h. refl), (record { fill = λ o. Var 0; instance = ((λ v. Var v), (λ v h. refl), refl) }, (tt, ((tt, tt), ((λ h. refl), ((λ h. refl), ((tt, tt), tt))))))))))))));
  };
  general = λ others f.
      let t : ℕ → Typ = f.choice.type_at in
      let h = f.holds in
      let k = h.1.1.1 in
      let body : t (first 4) ≡ t (first 3) = use_of_one (t (first 3)) (t (first 4)) k.0 k.1.1.1.1.1.0 in
      let whole : t (first 2) ≡ Arrow (t (first 3)) (t (first 4)) = k.1.1.1.1.1.1.1.1.1.0 refl in
      let c : (n : ℕ) → t n ≡ others n = f.chosen in (
        others,
        at_all others identity_types
            (sym (c (first 2)) ∙ whole ∙ ap (Arrow (t (first 3))) body ∙ ap (λ x. Arrow x x) (c (first 3)), (sym (c (first 4)) ∙ body ∙ c (first 3), tt)),
      );
}
