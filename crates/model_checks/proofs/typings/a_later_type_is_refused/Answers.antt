use Rattle.std.proofs.Common.{◌≡◌, ℕ, [], ◌∷◌, refl, subst}
use Rattle.type_model.specs.Types.{Typ, Con, Nil, occurs}
use Rattle.type_model.specs.Limits.{IsInScope}
use Rattle.signature_model.specs.Entries.{free_in}
use Rattle.typing_model.specs.BuiltIns.{list_type}
use Rattle.typing_model.specs.Contexts.{generalised_in}
use Rattle.model_checks.specs.Typings.{first, second, third}
use Rattle.model_checks.specs.Scopes.{ref_type, with_assignment}
use Rattle.model_checks.proofs.Apart.{no_yes}
use Rattle.model_checks.proofs.Later.{assigned, held_is_free, listed, of_lists}
use Rattle.model_checks.proofs.Uses.{use_of_fixed}
use Rattle.tree_model.specs.Slots.{is_operand}
use Rattle.grammar_model.specs.Rows.{chain_of, grower_of}
use Rattle.grammar_model.specs.Ocaml.{rows}
use Rattle.grammar_model.specs.Tables.{first_place}
use Rattle.grammar_model.specs.Keys.{kind_key, key_of}
use Rattle.recovery_model.specs.Steps as rules
use Rattle.recovery_model.specs.Recovery.{step, close, recover}
use Rattle.typing_model.specs.BuiltIns.{constant_by}
use Rattle.typing_model.specs.Patterns.{pattern_row}
use Rattle.typing_model.specs.Expressions.{expression_row}
use Rattle.typing_model.specs.TypeExpressions.{type_row}
use Rattle.typing_model.specs.Modules.{module_expression_row, module_type_row, item_row, signature_item_row}
use Rattle.model_checks.proofs.typings.a_later_type_is_refused.Goals as goal

pub returns : goal.returns
unfolding recover step close rules.step rows chain_of grower_of first_place kind_key key_of is_operand constant_by pattern_row expression_row type_row module_expression_row module_type_row item_row signature_item_row
returns c t =
    let h = t.1.holds in
    let at : ℕ → Typ = t.1.choice.type_at in
    let l : ℕ → Typ = t.1.choice.letter (third 3) in
    let used : at (third 4) ≡ at (first 2) =
    use_of_fixed (generalised_in with_assignment (at (first 3) ∷ at (first 2) ∷ []) (at (first 2))) (at (third 4)) h.1.1.1.1.1.1.1.1.1.1.1.1.1.1.1.0
    (λ v o. held_is_free (free_in v with_assignment) (occurs v (at (first 3))) (occurs v (at (first 2))) o) h.1.1.1.1.1.1.1.1.1.1.1.1.1.1.1.1.1.1.1.1.1.1.1.1.1.1.1.1.1.1.1.1.1.1.0 in
    let value : at (third 5) ≡ list_type (Con (second 1 ∷ []) Nil) = listed (at (third 5)) (at (third 6)) (Con (second 1 ∷ []) Nil) h.1.1.1.1.1.1.1.1.1.1.1.1.1.1.1.1.1.1.1.1.1.1.1.1.1.1.1.1.1.1.1.1.1.1.1.1.1.1.1.1.1.1.1.1.0 h.1.1.1.1.1.1.1.1.1.1.1.1.1.1.1.1.1.1.1.1.1.1.1.1.1.1.1.1.1.1.1.1.1.1.1.1.1.1.1.1.1.1.1.0 in
    let whole : at (first 2) ≡ ref_type (at (third 5)) =
    assigned (at (first 2)) (at (third 4)) (l 0) (l 1) (l 2) (l 3) (l 4) (h.1.1.1.1.1.1.1.1.1.1.1.1.1.1.1.1.1.1.1.1.1.1.1.1.1.1.1.1.1.0.instance.0 0) (at (third 5))
    used h.1.1.1.1.1.1.1.1.1.1.1.1.1.1.1.1.1.1.1.1.1.1.1.1.1.1.1.1.1.0.instance.2 (h.1.1.1.1.1.1.1.1.1.1.1.1.1.1.1.1.1.1.1.1.1.1.1.1.1.1.1.1.1.1.0 refl) (h.1.1.1.1.1.1.1.1.1.1.1.1.1.1.1.1.1.1.1.1.1.1.1.1.1.1.1.1.1.1.1.1.1.1.1.0 refl) (h.1.1.1.1.1.1.1.1.1.1.1.1.1.1.1.1.1.1.1.1.1.1.1.1.1.1.1.1.1.1.1.1.1.1.1.1.0 refl) (h.1.1.1.1.1.1.1.1.1.1.1.1.1.1.1.1.1.1.1.1.1.1.1.1.1.1.1.1.1.1.1.1.1.1.1.1.1.1.1.1.1.1.1.1.1.0 refl) in
    let scope : IsInScope (first 0) (ref_type (list_type (Con (second 1 ∷ []) Nil))) = subst (IsInScope (first 0)) (of_lists (at (first 2)) (at (third 5)) (Con (second 1 ∷ []) Nil) whole value) h.1.1.1.1.1.1.1.1.1.1.1.1.1.1.1.1.1.1.0 in
    no_yes scope.1.0.1.0.0
