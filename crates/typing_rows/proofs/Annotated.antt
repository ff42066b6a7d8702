-- A part with a type written after it.
use Rattle.std.proofs.Common.{◌≡◌, ◌∙◌, ◌++◌, ℕ, List, [], ◌∷◌, Some, option_map, refl, sym, ap, subst, append_assoc}
use Rattle.tree_model.specs.Rows.{eparen_row}
use Rattle.tree_model.specs.Slots.{is_operand}
use Rattle.tree_model.specs.Trees.{Place, Tree}
use Rattle.row_parts.specs.Numbered.{Numbered, first_in, filled_in}
use Rattle.typing_model.specs.Demands.{Condition, equal}
use Rattle.typing_model.specs.Contexts.{Context, ask, type_at}
use Rattle.typing_model.specs.Parts as parts
use Rattle.typing_model.specs.Parts.{TypeExpression, types_in}
use Rattle.typing_model.specs.Expressions.{expression_row, is_of, has_type, parenthesised}
use Rattle.env_table.specs.declared.entries.Entry.{Entry}
use Rattle.typing_state.specs.declared.parts.Parts.{Parts}
use Rattle.typing_state.specs.Goes.{Goes}
use Rattle.typing_conditions.specs.Sights.{Sight, own, Letters}
use Rattle.typing_conditions.specs.Frames.{Frame}
use Rattle.typing_conditions.specs.Carrying.{Asks, Scope}
use Rattle.typing_conditions.proofs.Hiding.{owns_done}
use Rattle.typing_rows.specs.TypeContracts.{ReadAs}
use Rattle.typing_conditions.proofs.Recording.{ends_same}
use Rattle.typing_conditions.proofs.Surrounding.{surrounds_on}
use Rattle.typing_steps.specs.States.{is_aloud, sight}
use Rattle.typing_steps.specs.Typing.{TypesTo, TypesRow, RowCarried}
use Rattle.operand_laws.specs.Formed.{row_of, is_needed, IsFormed}
use Rattle.operand_laws.specs.Operands.{number_of, parts_of, expression_of, type_of}
use Rattle.operand_laws.proofs.Sorts.{first_type_stands}
use Rattle.typing_rows.specs.Asked.{row_expression}
use Rattle.typing_rows.proofs.Ending.{row_as, row_after}
use Rattle.typing_rows.proofs.Terms.{one, as_row}
use Rattle.typing_rows.specs.Operands.{Annotates}

-- a row that has the written type, which is a letter of its own
pub row_written : {F : Frame} {scope : Scope} {asks : Asks} {a b : Sight} {G : Letters} {n m : ℕ} (front : Asks) (w : TypeExpression) → ReadAs F scope front a G b w.node m →
    ((c : Context) → front c ++ is_of c n (type_at c w.node) ≡ asks c) → RowCarried F scope asks a G b n m
row_written {n = n} {m = m} front w typed is =
    record { own = (own w.node, m) ∷ []; type = λ ch. ch.type_at w.node; first = front; ends = λ c. is_of c n (type_at c w.node); all = is; typed = record { carried = typed.carried; means = typed.means }; owns = λ known. owns_done typed.done; end = ends_same n (λ ch. ch.type_at w.node) }

-- ( e : t )
annotated_term : (i n : ℕ) (at : Place) (t : Tree) (o : Numbered) → IsFormed n t → row_of t ≡ eparen_row → first_in n t 3 ≡ Some o → row_expression i n at t ≡ parenthesised (number_of i n) at (expression_of i (filled_in n t 1)) (Some (type_of i o))
unfolding expression_row is_operand is_needed
annotated_term i n at t o formed row some =
    as_row i n t formed at eparen_row row ∙ ap (λ e. parenthesised (number_of i n) at e (parts.first_of (types_in 3 (parts_of i n t)))) (one i n t formed eparen_row 1 row refl refl) ∙
    ap (λ x. parenthesised (number_of i n) at (expression_of i (filled_in n t 1)) x) (first_type_stands i n t 3 formed (ap (λ q. is_operand q 3) row) ∙ ap (option_map (type_of i)) some)

-- what is asked after the part, as one
grouped : (xs ys zs us : List Condition) → xs ++ (ys ++ zs ++ us) ≡ xs ++ ys ++ zs ++ us
grouped xs ys zs us = ap (λ rest. xs ++ rest) (append_assoc ys zs us) ∙ sym (append_assoc xs ys (zs ++ us)) ∙ sym (append_assoc (xs ++ ys) zs us)

-- its part is typed, and has the written type
pub annotated_typed : (a b d : Parts) (env : List Entry) (n : ℕ) (at place : Place) (t : Tree) (o : Numbered) (found wanted : ℕ) → IsFormed n t → row_of t ≡ eparen_row → first_in n t 3 ≡ Some o →
    TypesTo a b env (λ c. (expression_of a.item (filled_in n t 1)).typed c) (λ ch. ch.type_at (expression_of a.item (filled_in n t 1)).node) found → Goes a b → (expression_of a.item (filled_in n t 1)).at ≡ place → Annotates b d env (type_of b.item o) place found wanted →
    TypesRow a d env (λ c. (row_expression a.item n at t).typed c) (number_of a.item n) wanted
annotated_typed a b d env n at place t o found wanted formed row some typed goes here written = λ aloud F scope G its s.
    let m = number_of a.item n in
    let e = expression_of a.item (filled_in n t 1) in
    let w = type_of a.item o in
    let x = typed aloud F scope G s in
    let y = subst (λ i. Annotates b d env (type_of i o) place found wanted) goes.item written (ap is_aloud goes.telling ∙ aloud) F scope G m 0 (λ ch. ch.type_at e.node) its (surrounds_on x.carried.stays s) x.means in
    let z = subst (λ p. ReadAs F scope (λ c. w.read c ++ ask m 0 p (equal (type_at c e.node) (type_at c w.node))) (sight b) G (sight d) w.node wanted) (sym here) y in
    row_as (λ c. grouped (e.typed c) (w.read c) (has_type c m 0 e (type_at c w.node)) (is_of c m (type_at c w.node)) ∙ ap (λ x. x.typed c) (sym (annotated_term a.item n at t o formed row some)))
    (row_after x.carried (row_written (λ c. w.read c ++ has_type c m 0 e (type_at c w.node)) w z (λ c. refl)))
