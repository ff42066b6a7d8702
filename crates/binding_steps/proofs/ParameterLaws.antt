-- Parameters and their names, one after the other, arrows from their types, and what a match knows.
use Rattle.std.proofs.Common.{◌≡◌, ◌∙◌, ◌++◌, ◌+◌, ◌-◌, ◌<◌, ◌≤◌, ℕ, zero, suc, List, [], ◌∷◌, length, map, drop, arith, None, refl, sym, ap, subst}
use Rattle.std.specs.Prelude.{All, slice_index_or}
use Rattle.std.proofs.lemmas.List.{drop_more}
use Rattle.std.proofs.lemmas.List.Elements.{All-head, All-tail}
use Rattle.row_parts.specs.declared.slots.Operand.{Operand}
use Rattle.row_parts.specs.Numbered.{Numbered, operand_view}
use Rattle.syntax_tree.specs.Names.{row_of}
use Rattle.syntax_tree.specs.declared.rows.RowName.{RowName}
use Rattle.syntax_tree.specs.declared.rows.RowName.TheVariants as name
use Rattle.typing_model.specs.Parts.{Pattern}
use Rattle.type_terms.specs.declared.types.NodeRef.{NodeRef}
use Rattle.type_nodes.specs.Nodes.{Arrow, IsNode}
use Rattle.type_nodes.specs.Changes.{Makes}
use Rattle.type_nodes.specs.Views.{numbers}
use Rattle.env_table.specs.declared.entries.Entry.{Entry}
use Rattle.typing_state.specs.declared.parts.Parts.{Parts}
use Rattle.typing_state.specs.Goes.{Goes, OnlyStore}
use Rattle.use_typing.proofs.Reading.{drop_read}
use Rattle.operand_laws.specs.Operands.{pattern_of}
use Rattle.typing_rows.proofs.Ordered.{numbers_more}
use Rattle.pattern_rows.specs.CarriedPatterns.{IsCarriedPattern}
use Rattle.pattern_rows.specs.Contracts.{patterns_of, MatchesTo}
use Rattle.pattern_typing.specs.declared.patterns.BoundName.{BoundName}
use Rattle.pattern_typing.specs.Matching.{binds_of}
use Rattle.binding_rows.specs.CaseScopes.{names_added}
use Rattle.binding_rows.specs.Parameters.{MakesArrows, ParametersSoFar}
use Rattle.binding_rows.proofs.Parameters.{parameters_more, arrows_none, arrows_more}
use Rattle.binding_steps.specs.Sides.{sides_by}

-- a row that is no `try` matches what its part is
pub other_sides : (r : RowName) (exn ty : NodeRef) → (r ≡ name.Etry → ⊥) → sides_by (row_of r) exn ty ≡ (ty, None)
unfolding row_of
other_sides name.Etry exn ty h = absurd (h refl)
other_sides _ exn ty h = refl

-- one of some operands of which something holds
pub read_one : (P : Numbered → Type 0) (os : List Operand) (k : ℕ) (x : Operand) → k < length os → x ≡ slice_index_or os k x → All P (map operand_view os) → P (operand_view x)
read_one P [] k x lt e all = absurd (omega arith)
read_one P (o ∷ os) zero x lt e all = subst (λ z. P (operand_view z)) (sym e) (All-head P (operand_view o) (map operand_view os) all)
read_one P (o ∷ os) (suc k) x lt e all = read_one P os k x (omega arith) e (All-tail P (operand_view o) (map operand_view os) all)

-- one parameter more
pub parameter_step : (a b d : Parts) (env inside further : List Entry) (os : List Operand) (k : ℕ) (x : Operand) (names : List BoundName) (ms more : List NodeRef) (m : NodeRef) → k < length os → x ≡ slice_index_or os k x → more ≡ ms ++ m ∷ [] → further ≡ names_added (binds_of names) inside → Goes a b →
    (All IsCarriedPattern (map operand_view os) → ParametersSoFar a b env inside (patterns_of a.item (map operand_view os)) (patterns_of a.item (map operand_view (drop k os))) (numbers ms)) →
    (IsCarriedPattern (operand_view x) → MatchesTo b d env (pattern_of b.item (operand_view x)) [] (binds_of names) m.0) →
    All IsCarriedPattern (map operand_view os) → ParametersSoFar a d env further (patterns_of a.item (map operand_view os)) (patterns_of a.item (map operand_view (drop (k + 1) os))) (numbers more)
parameter_step a b d env inside further os k x names ms more m lt e longer brought goes first typed all =
    let view : List Operand → List Pattern = λ qs. patterns_of a.item (map operand_view qs) in
    parameters_more a b d env inside further (view os) (view (drop k os)) (view (drop (k + 1) os)) (pattern_of a.item (operand_view x)) (binds_of names) (numbers ms) (numbers more) m.0 (ap view (drop_read os k x lt e)) (numbers_more ms more m longer) brought goes (first all)
    (subst (λ i. MatchesTo b d env (pattern_of i (operand_view x)) [] (binds_of names) m.0) goes.item (typed (read_one IsCarriedPattern os k x lt e all)))

-- one name more in scope
pub name_step : (names : List BoundName) (k : ℕ) (x : BoundName) (e : Entry) (env inside further : List Entry) → k < length names → x ≡ slice_index_or names k x → e ≡ x.entry.value → further ≡ e ∷ inside →
    names_added (binds_of (drop k names)) inside ≡ names_added (binds_of names) env → names_added (binds_of (drop (k + 1) names)) further ≡ names_added (binds_of names) env
name_step names k x e env inside further lt is same brought before =
    ap (names_added (binds_of (drop (k + 1) names))) (brought ∙ ap (λ y. y ∷ inside) same) ∙ ap (λ ns. names_added (binds_of ns) inside) (sym (drop_read names k x lt is)) ∙ before

-- nothing is left after the last of a list
drop_end : {A : Type 0} (xs : List A) → drop (length xs) xs ≡ []
drop_end [] = refl
drop_end (x ∷ xs) = drop_end xs

-- no arrow yet
pub arrow_start : (a : Parts) (ms : List NodeRef) (to : ℕ) → MakesArrows a a (numbers (drop (length ms) ms)) to to
arrow_start a ms to = subst (λ ns. MakesArrows a a (numbers ns) to to) (sym (drop_end ms)) (arrows_none a to)

-- one arrow more
pub arrow_step : (a b d : Parts) (ms : List NodeRef) (j : ℕ) (x : NodeRef) (to m whole : ℕ) → 0 < j → j ≤ length ms → MakesArrows a b (numbers (drop j ms)) to m →
    (IsNode b.store.nodes (slice_index_or ms (j - 1) x).0 → IsNode b.store.nodes m → Makes b.store d.store whole (Arrow (slice_index_or ms (j - 1) x).0 m)) → OnlyStore b d → MakesArrows a d (numbers (drop (j - 1) ms)) to whole
arrow_step a b d ms j x to m whole some inside first made rest =
    let next : j ≡ j - 1 + 1 = omega arith in
    subst (λ ns. MakesArrows a d (numbers ns) to whole) (sym (drop_more ms (j - 1) x (omega arith)))
    (arrows_more a b d (numbers (drop (j - 1 + 1) ms)) to (slice_index_or ms (j - 1) x).0 m whole (subst (λ i. MakesArrows a b (numbers (drop i ms)) to m) next first) made rest)
