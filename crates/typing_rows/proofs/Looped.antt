-- A `for`, from what its bounds and its body carry.
use Rattle.std.proofs.Common.{◌≡◌, ◌∙◌, ◌++◌, ℕ, true, List, ◌∷◌, Option, Some, None, refl, sym, ap, subst, append_assoc}
use Rattle.token_model.specs.Kinds.{Tok}
use Rattle.tree_model.specs.Rows.{efor_row}
use Rattle.tree_model.specs.Slots.{is_operand}
use Rattle.tree_model.specs.Trees.{Place, Tree}
use Rattle.type_model.specs.Types.{Typ}
use Rattle.row_parts.specs.Numbered.{filled_in, token_in}
use Rattle.signature_model.specs.Declarations as rules
use Rattle.signature_model.specs.Declarations.{Name, in_text}
use Rattle.signature_model.specs.Entries.{entry, a_value}
use Rattle.signature_model.specs.Matching.{IsKnown}
use Rattle.typing_model.specs.Contexts.{Choice, monomorphic, with_names}
use Rattle.typing_model.specs.BuiltIns.{int_type, unit_type}
use Rattle.typing_model.specs.Parts.{Expression, place_of}
use Rattle.typing_model.specs.Expressions.{expression_row, has_type, is_of, loop_names, for_expression}
use Rattle.type_terms.specs.declared.types.NodeRef.{NodeRef}
use Rattle.env_table.specs.declared.entries.Entry.{Entry}
use Rattle.typing_state.specs.declared.parts.Parts.{Parts}
use Rattle.typing_state.specs.Goes.{Goes}
use Rattle.typing_conditions.specs.Sights.{Sight, Letters}
use Rattle.typing_conditions.specs.Frames.{Frame}
use Rattle.typing_conditions.specs.Meanings.{Means}
use Rattle.typing_conditions.specs.Carrying.{Scope}
use Rattle.typing_conditions.specs.Surroundings.{Declared, Surrounds, with_one, IsEntry}
use Rattle.typing_conditions.proofs.Carried.{carried_trans, carried_under}
use Rattle.typing_conditions.proofs.Meaning.{means_on, means_more}
use Rattle.typing_conditions.proofs.Surrounding.{surrounds_named, surrounds_on}
use Rattle.typing_steps.specs.States.{is_aloud}
use Rattle.typing_steps.specs.Typing.{TypesTo, TypesRow}
use Rattle.operand_laws.specs.Formed.{row_of, is_needed, IsFormed}
use Rattle.operand_laws.specs.Operands.{number_of, expression_of}
use Rattle.operand_laws.proofs.Tokens.{token_stands}
use Rattle.typing_rows.specs.Asked.{row_expression}
use Rattle.typing_rows.specs.Contracts.{TypesAs}
use Rattle.typing_rows.specs.Loops.{IsLoopScope}
use Rattle.typing_rows.proofs.Ending.{row_of_type}
use Rattle.typing_rows.proofs.Terms.{one, as_row}
use Rattle.typing_conditions.proofs.Stops.{around_values}

-- A part is typed among one name more, whose type is that of an open node, and in which no unknown type stands whatever is chosen.
pub surrounds_known : {D : Declared} {F : Frame} {a : Sight} {G : Letters} {env : List Entry} {scope : Scope} {type : Choice → Typ} {e : Entry} {x : Name} {n : NodeRef} (place : rules.Place) → IsEntry e x place n → Means F a G type n.0 →
    ((ch : Choice) → IsKnown (type ch)) → Surrounds D F a G env scope → Surrounds D F a G (e ∷ env) (with_one x place type scope)
surrounds_known place is p known at = surrounds_named place is p (λ V ch loose g. subst IsKnown (p.is V ch loose g) (known ch)) at

-- no unknown type stands in an int
known_int : IsKnown int_type
known_int = (refl, tt)

-- The body of a loop: it is typed among the names around the loop and its variable.
pub in_loop : (a b : Parts) (env inner : List Entry) (x : Option Tok) (g : Expression) (m : ℕ) → IsLoopScope a.constants.int x env inner → TypesTo a b inner (λ c. g.typed c) (λ ch. ch.type_at g.node) m →
    TypesTo a b env (λ c. g.typed (with_names c (loop_names x))) (λ ch. ch.type_at g.node) m
in_loop a b env inner None g m same typed = λ aloud F scope G s. (subst (λ q. TypesTo a b q (λ c. g.typed c) (λ ch. ch.type_at g.node) m) same typed) aloud F scope G s
in_loop a b env inner (Some t) g m (e, split, named) typed = λ aloud F scope G s.
    let place = in_text (place_of t) in
    let here = surrounds_known {type = λ ch. int_type} place named (means_more s.fixed.int) (λ ch. known_int) s in
    let x = (subst (λ q. TypesTo a b q (λ c. g.typed c) (λ ch. ch.type_at g.node) m) split typed) aloud F (with_one t.name place (λ ch. int_type) scope) G here in
    record {
      carried = carried_under (λ c. with_names c (loop_names (Some t))) refl (λ c. (refl, refl))
          (λ c u. record { env = ap (λ E. entry t.name place (a_value (monomorphic int_type)) ∷ E) u.env; variables = u.variables; held = u.held })
          (around_values scope (with_one t.name place (λ ch. int_type) scope) (λ c. with_names c (loop_names (Some t))) (λ c. g.typed c) refl (λ c u. refl)) x.carried;
      means = x.means;
    }

-- for x = e to e do e done
pub for_term : (i n : ℕ) (at : Place) (t : Tree) → IsFormed n t → row_of t ≡ efor_row →
    row_expression i n at t ≡ for_expression (number_of i n) at (token_in t 1) (expression_of i (filled_in n t 3)) (expression_of i (filled_in n t 5)) (expression_of i (filled_in n t 7))
unfolding expression_row is_operand is_needed
for_term i n at t formed row =
    as_row i n t formed at efor_row row ∙
    (λ k. for_expression (number_of i n) at (token_stands i n t 1 k) (one i n t formed efor_row 3 row refl refl k) (one i n t formed efor_row 5 row refl refl k) (one i n t formed efor_row 7 row refl refl k))

-- The row of a loop: its two bounds, which are ints, and its body.
pub for_typed : (a b d f : Parts) (env inner : List Entry) (n : ℕ) (at : Place) (t : Tree) (m : ℕ) → IsFormed n t → row_of t ≡ efor_row → TypesAs a b env (expression_of a.item (filled_in n t 3)) a.constants.int.0 → Goes a b →
    TypesAs b d env (expression_of b.item (filled_in n t 5)) a.constants.int.0 → Goes b d → IsLoopScope d.constants.int (token_in t 1) env inner →
    TypesTo d f inner (λ c. (expression_of d.item (filled_in n t 7)).typed c) (λ ch. ch.type_at (expression_of d.item (filled_in n t 7)).node) m → TypesRow a f env (λ c. (row_expression a.item n at t).typed c) (number_of a.item n) f.constants.unit.0
for_typed a b d f env inner n at t m formed row first goes second goes' names body = λ aloud F scope G its s.
    let i = a.item in
    let k = number_of i n in
    let p = expression_of i (filled_in n t 3) in
    let q = expression_of i (filled_in n t 5) in
    let g = expression_of i (filled_in n t 7) in
    let loud : is_aloud b.telling ≡ true = ap is_aloud goes.telling ∙ aloud in
    let x = first aloud F scope G k 0 (λ ch. int_type) its s (means_more s.fixed.int) in
    let y = (subst (λ j. TypesAs b d env (expression_of j (filled_in n t 5)) a.constants.int.0) goes.item second) loud F scope G k 1 (λ ch. int_type) its (surrounds_on x.stays s) (means_on x.stays (means_more s.fixed.int)) in
    let front = carried_trans x y in
    let inside = subst (λ j. TypesTo d f inner (λ c. (expression_of j (filled_in n t 7)).typed c) (λ ch. ch.type_at (expression_of j (filled_in n t 7)).node) m) (goes'.item ∙ goes.item) body in
    let z = in_loop d f env inner (token_in t 1) g m names inside (ap is_aloud goes'.telling ∙ loud) F scope G (surrounds_on front.stays s) in
    let whole = carried_trans front z.carried in
    row_of_type (λ c. ((p.typed c ++ has_type c k 0 p int_type) ++ (q.typed c ++ has_type c k 1 q int_type)) ++ g.typed (with_names c (loop_names (token_in t 1)))) (λ ch. unit_type) whole (means_more (surrounds_on whole.stays s).fixed.unit)
    (λ c. ap (λ xs. (xs ++ g.typed (with_names c (loop_names (token_in t 1)))) ++ is_of c k unit_type) (sym (append_assoc (p.typed c ++ has_type c k 0 p int_type) (q.typed c) (has_type c k 1 q int_type))) ∙ ap (λ e. e.typed c) (sym (for_term i n at t formed row)))
