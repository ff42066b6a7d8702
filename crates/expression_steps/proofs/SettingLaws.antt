-- A field that is set, and a `for`, as the code types them.
use Rattle.std.proofs.Common.{◌≡◌, ◌∙◌, ℕ, Bool, true, false, List, [], map, Option, Some, None, refl, sym, ap, subst, if◌then◌else◌}
use Rattle.std.specs.Prelude.{All}
use denote.Ref.{Bor}
use Rattle.token_model.specs.Kinds.{Tok, Kind, upper, lower, float, false_word}
use Rattle.tree_model.specs.Rows.{Row, name_row, epath_row, econst_row, eparen_row, ebegin_row, erecord_row, field_row, eif_row}
use Rattle.tree_model.specs.Trees.{Place, Tree, Part, taken, inner, missing, node}
use Rattle.syntax_tree.specs.declared.tree.Node.{Node}
use Rattle.syntax_tree.specs.View.{node_view, place_of}
use Rattle.row_parts.specs.declared.slots.Operand.{Operand}
use Rattle.row_parts.specs.Numbered.{Numbered, numbered, operand_view, part_of, path_in, token_in, all_operands, filled_in}
use Rattle.type_terms.specs.declared.types.NodeRef.{NodeRef}
use Rattle.typing_model.specs.Contexts.{Context}
use Rattle.typing_model.specs.Parts as parts
use Rattle.typing_model.specs.Parts.{Expression, Child}
use Rattle.typing_model.specs.Expressions.{expression_row, ask_mutable, path_expression, name_form, literal_form, parenthesised, begun, if_expression, update_expression, record_expression, fields_in, is_some}
use Rattle.env_table.specs.declared.entries.Entry.{Entry}
use Rattle.typing_state.specs.declared.parts.Parts.{Parts}
use Rattle.typing_state.specs.Goes.{Goes}
use Rattle.typing_conditions.specs.Steps.{Records}
use Rattle.typing_steps.specs.States.{is_aloud, sight}
use Rattle.typing_steps.specs.Typing.{TypesTo, TypesRow}
use Rattle.operand_laws.specs.Operands.{number_of, parts_of, path_of, expression_of}
use Rattle.typing_rows.specs.CarriedRows.{sort_in, IsCarried}
use Rattle.typing_rows.specs.Asked.{row_expression, expressions_of}
use Rattle.typing_rows.specs.Contracts.{TypesAs, TypesParts}
use Rattle.typing_rows.specs.Fields.{EndsSettable, TypesSettable}
use Rattle.typing_rows.specs.Loops.{IsLoopScope}
use Rattle.typing_rows.proofs.Going.{all_carried, filled_carried}
use Rattle.typing_rows.proofs.Setting.{field_settable, part_settable, set_typed}
use Rattle.typing_rows.proofs.Looped.{for_typed}
use Rattle.expression_steps.specs.declared.forms.RowForm.TheVariants as form
use Rattle.value_forms.specs.Heads.{row_at}
use Rattle.value_forms.proofs.Nodes.{rows_same}
use Rattle.expression_steps.specs.Forms.{form_of}
use Rattle.expression_steps.specs.Heads.{is_field_row, is_field_at}
use Rattle.expression_steps.proofs.CarryingLaws.{by_set, by_loop}

-- forms that aren't that of a field ask nothing of a label
module _ (c : Context) (k : ℕ) where
  path_unset : (n : ℕ) (at : Place) (q : List Tok) (start end col : ℕ) (name : List ℕ) (kind : Kind) → ask_mutable c k (path_expression n at (record { qualifiers = q; last = Some (record { kind = kind; start = start; end = end; col = col; name = name }) })).form ≡ []
  path_unset n at q start end col name upper = refl
  path_unset n at q start end col name lower = refl
  path_unset n at q start end col name _ = refl

  paths_unset : (n : ℕ) (at : Place) (p : parts.Written) → ask_mutable c k (path_expression n at p).form ≡ []
  paths_unset n at p = by p.last
    where
      by : (o : Option Tok) → ask_mutable c k (path_expression n at (record { qualifiers = p.qualifiers; last = o })).form ≡ []
      by None = refl
      by (Some t) = path_unset n at p.qualifiers t.start t.end t.col t.name t.kind

  name_unset : (q : List Tok) (start end col : ℕ) (name : List ℕ) (kind : Kind) → ask_mutable c k (name_form (record { qualifiers = q; last = Some (record { kind = kind; start = start; end = end; col = col; name = name }) })) ≡ []
  name_unset q start end col name lower = refl
  name_unset q start end col name _ = refl

  names_unset : (p : parts.Written) → ask_mutable c k (name_form p) ≡ []
  names_unset p = by p.last
    where
      by : (o : Option Tok) → ask_mutable c k (name_form (record { qualifiers = p.qualifiers; last = o })) ≡ []
      by None = refl
      by (Some t) = name_unset p.qualifiers t.start t.end t.col t.name t.kind

  literal_unset : (start end col : ℕ) (name : List ℕ) (kind : Kind) → ask_mutable c k (literal_form (Some (record { kind = kind; start = start; end = end; col = col; name = name }))) ≡ []
  literal_unset start end col name float = refl
  literal_unset start end col name false_word = refl
  literal_unset start end col name _ = refl

  literals_unset : (o : Option Tok) → ask_mutable c k (literal_form o) ≡ []
  literals_unset None = refl
  literals_unset (Some t) = literal_unset t.start t.end t.col t.name t.kind

  paren_unset : (n : ℕ) (at : Place) (e : Expression) (o : Option parts.TypeExpression) → ask_mutable c k (parenthesised n at e o).form ≡ []
  paren_unset n at e None = refl
  paren_unset n at e (Some t) = refl

  begun_unset : (n : ℕ) (at : Place) (o : Option Expression) → ask_mutable c k (begun n at o).form ≡ []
  begun_unset n at None = refl
  begun_unset n at (Some e) = refl

  if_unset : (n : ℕ) (at : Place) (e f : Expression) (o : Option Expression) → ask_mutable c k (if_expression n at e f o).form ≡ []
  if_unset n at e f None = refl
  if_unset n at e f (Some g) = refl

  either_unset : (b : Bool) (x y : Expression) → ask_mutable c k x.form ≡ [] → ask_mutable c k y.form ≡ [] → ask_mutable c k (if b then x else y).form ≡ []
  either_unset true x y p q = p
  either_unset false x y p q = q

  row_unset : (r : Row) (n : ℕ) (at : Place) (cs : List Child) → is_field_row r ≡ false → ask_mutable c k (expression_row r n at cs).form ≡ []
  unfolding expression_row
  row_unset name_row n at cs h = names_unset (parts.path_in 9 0 cs)
  row_unset epath_row n at cs h = paths_unset n at (parts.path_in 0 1 cs)
  row_unset econst_row n at cs h = literals_unset (parts.token_in 0 cs)
  row_unset eparen_row n at cs h = paren_unset n at (parts.expression_in 1 cs) (parts.first_of (parts.types_in 3 cs))
  row_unset ebegin_row n at cs h = begun_unset n at (parts.first_of (parts.expressions_in 1 cs))
  row_unset erecord_row n at cs h =
      either_unset (is_some (parts.token_in 4 cs)) (update_expression n at (parts.expression_in 1 cs) (fields_in 5 cs)) (record_expression n at (parts.expression_in 1 cs) (parts.first_of (parts.expressions_in 3 cs)) (fields_in 5 cs)) refl refl
  row_unset eif_row n at cs h = if_unset n at (parts.expression_in 1 cs) (parts.expression_in 3 cs) (parts.first_of (parts.expressions_in 5 cs))
  row_unset field_row n at cs h = absurd (cc)
  row_unset _ n at cs h = refl

  -- an operand that is no field in the code asks nothing of a label in the definitions
  pub operand_unset : (i : ℕ) (o : Numbered) → is_field_at o.part ≡ false → ask_mutable c k (expression_of i o).form ≡ []
  operand_unset i o h = by o.number o.at o.part h
    where
      by : (n : ℕ) (at : Place) (p : Part) → is_field_at p ≡ false → ask_mutable c k (expression_of i (numbered n at p)).form ≡ []
      by n at (taken t) h = refl
      by n at (missing q) h = refl
      by n at (inner (node r x ps)) h = row_unset r (number_of i n) at (parts_of i n (node r x ps)) h

-- a field that is set, as the code types it
pub field_set : (a b d f : Parts) (env : List Entry) (n : ℕ) (at : Place) (t : Tree) (os : List Operand) (ms : List ℕ) (ty : ℕ) → IsCarried (numbered n at (inner t)) → row_at t ≡ field_row → map operand_view os ≡ all_operands n t →
    (All IsCarried (map operand_view os) → TypesParts a b env field_row (expressions_of a.item (map operand_view os)) ms) → Goes a b → EndsSettable b d env (path_of (path_in t 2 3)) (expressions_of b.item (map operand_view os)) ms ty → Goes b d →
    (is_aloud d.telling ≡ true → Records (sight d) (sight f) n ty env) → TypesSettable a f env (expression_of a.item (numbered n at (inner t))) ty
field_set a b d f env n at t os ms ty carried row given typed goes ends goes' noted =
    field_settable a b d f env n at t ms ty carried.formed (rows_same t ∙ row)
    (subst (λ qs. TypesParts a b env field_row (expressions_of a.item qs) ms) given (typed (subst (All IsCarried) (sym given) (all_carried n at t (λ s. ap (λ r. sort_in r s) (rows_same t ∙ row)) carried)))) goes
    (subst (λ qs. EndsSettable b d env (path_of (path_in t 2 3)) (expressions_of b.item qs) ms ty) given ends) goes' noted

-- the left part of `e . l <- e` where it is a field
pub part_set : (a f : Parts) (env : List Entry) (o : Operand) (nd : Bor Node) (m : ℕ) → o.node ≡ Some nd → row_at (node_view nd.now) ≡ field_row →
    ((place : Place) → IsCarried (numbered o.number place (inner (node_view nd.now))) → row_at (node_view nd.now) ≡ field_row → TypesSettable a f env (expression_of a.item (numbered o.number place (inner (node_view nd.now)))) m) →
    IsCarried (operand_view o) → TypesSettable a f env (expression_of a.item (operand_view o)) m
part_set a f env o nd m there row typed carried =
    let here : IsCarried (numbered o.number (place_of o.span) (inner (node_view nd.now))) = subst (λ x. IsCarried (numbered o.number (place_of o.span) (part_of x o.span))) there carried in
    subst (λ x. TypesSettable a f env (expression_of a.item (numbered o.number (place_of o.span) (part_of x o.span))) m) (sym there) (typed (place_of o.span) here row)

-- where it is none
pub part_unset : (a b : Parts) (env : List Entry) (o : Numbered) (m : ℕ) → is_field_at o.part ≡ false → TypesTo a b env (λ c. (expression_of a.item o).typed c) (λ ch. ch.type_at (expression_of a.item o).node) m → TypesSettable a b env (expression_of a.item o) m
part_unset a b env o m h typed = part_settable a b env (expression_of a.item o) m (λ c n. operand_unset c n a.item o h) typed

-- the row of a field that is set
pub set_row : (a b d : Parts) (env : List Entry) (n : ℕ) (at : Place) (t : Tree) (left right : Operand) (ty : ℕ) (u : NodeRef) → IsCarried (numbered n at (inner t)) → form_of (row_at t) ≡ form.Set → operand_view left ≡ filled_in n t 0 → operand_view right ≡ filled_in n t 2 →
    (IsCarried (operand_view left) → TypesSettable a b env (expression_of a.item (operand_view left)) ty) → Goes a b → (IsCarried (operand_view right) → TypesAs b d env (expression_of b.item (operand_view right)) ty) → u ≡ d.constants.unit →
    TypesRow a d env (λ c. (row_expression a.item n at t).typed c) (number_of a.item n) u.0
set_row a b d env n at t left right ty u carried is here there typed goes asked same =
    subst (λ x. TypesRow a d env (λ c. (row_expression a.item n at t).typed c) (number_of a.item n) x.0) (sym same)
    (set_typed a b d env n at t ty carried.formed (by_set t is) (subst (λ o. TypesSettable a b env (expression_of a.item o) ty) here (typed (subst IsCarried (sym here) (filled_carried n at t 0 (ap (λ r. sort_in r 0) (by_set t is)) carried)))) goes
    (subst (λ o. TypesAs b d env (expression_of b.item o) ty) there (asked (subst IsCarried (sym there) (filled_carried n at t 2 (ap (λ r. sort_in r 2) (by_set t is)) carried)))))

-- the row of a loop
pub for_row : (a b d f : Parts) (env inner_env : List Entry) (n : ℕ) (at : Place) (t : Tree) (first second body : Operand) (m : ℕ) → IsCarried (numbered n at (inner t)) → form_of (row_at t) ≡ form.Loop →
    operand_view first ≡ filled_in n t 3 → operand_view second ≡ filled_in n t 5 → operand_view body ≡ filled_in n t 7 → (IsCarried (operand_view first) → TypesAs a b env (expression_of a.item (operand_view first)) a.constants.int.0) → Goes a b →
    (IsCarried (operand_view second) → TypesAs b d env (expression_of b.item (operand_view second)) a.constants.int.0) → Goes b d → IsLoopScope d.constants.int (token_in t 1) env inner_env →
    (IsCarried (operand_view body) → TypesTo d f inner_env (λ c. (expression_of d.item (operand_view body)).typed c) (λ ch. ch.type_at (expression_of d.item (operand_view body)).node) m) →
    TypesRow a f env (λ c. (row_expression a.item n at t).typed c) (number_of a.item n) f.constants.unit.0
for_row a b d f env inner_env n at t first second body m carried is one two three typed goes typed' goes' scope inside =
    for_typed a b d f env inner_env n at t m carried.formed (by_loop t is)
    (subst (λ o. TypesAs a b env (expression_of a.item o) a.constants.int.0) one (typed (subst IsCarried (sym one) (filled_carried n at t 3 (ap (λ r. sort_in r 3) (by_loop t is)) carried)))) goes
    (subst (λ o. TypesAs b d env (expression_of b.item o) a.constants.int.0) two (typed' (subst IsCarried (sym two) (filled_carried n at t 5 (ap (λ r. sort_in r 5) (by_loop t is)) carried)))) goes' scope
    (subst (λ o. TypesTo d f inner_env (λ c. (expression_of d.item o).typed c) (λ ch. ch.type_at (expression_of d.item o).node) m) three (inside (subst IsCarried (sym three) (filled_carried n at t 7 (ap (λ r. sort_in r 7) (by_loop t is)) carried))))
