-- Whether an expression is non-expansive, as the code reads it.
use Rattle.std.proofs.Common.{◌≡◌, ◌∙◌, ◌++◌, ◌&&◌, ◌==◌, ◌+◌, ◌<◌, ℕ, Bool, true, false, zero, suc, List, [], ◌∷◌, length, map, drop, arith, Option, Some, None, option_map, option_to_list, append_assoc, append-nil, ◌≤◌, refl, sym, ap, subst}
use Rattle.std.specs.List.{cons_option}
use Rattle.std.proofs.lemmas.List.{drop_all}
use Rattle.std.specs.Prelude.{All, slice_index_or}
use Rattle.std.proofs.lemmas.List.Elements.{All-head, All-tail}
use denote.Ref.{Bor}
use Rattle.tree_model.specs.Rows.{Row, eapp_row, eassert_row, erecord_row, ematch_row, elet_row}
use Rattle.tree_model.specs.Trees.{Place, inner}
use Rattle.syntax_tree.specs.declared.rows.RowName.{RowName}
use Rattle.syntax_tree.specs.declared.rows.RowName.TheVariants as name
use Rattle.syntax_tree.specs.declared.tree.Node.{Node, out-Node}
use Rattle.syntax_tree.specs.Names.{row_of}
use Rattle.syntax_tree.specs.View.{node_view, place_of}
use Rattle.row_parts.specs.declared.slots.Operand.{Operand}
use Rattle.row_parts.specs.Numbered.{Numbered, Written, numbered, operand_view, part_of, operands_in, filled_in}
use Rattle.typing_model.specs.Contexts.{Context}
use Rattle.typing_model.specs.Expressions.{all_values, is_some}
use Rattle.env_table.specs.declared.entries.Entry.{Entry}
use Rattle.typing_steps.specs.Typing.{as_declared}
use Rattle.use_typing.proofs.Reading.{drop_read}
use Rattle.operand_laws.specs.Operands.{path_of, expression_of}
use Rattle.operand_laws.proofs.Sorts.{expression_by_row}
use Rattle.typing_rows.specs.Asked.{row_expression, expressions_of}
use Rattle.typing_rows.specs.CarriedRows.{sort_in, IsCarriedRow, IsCarried}
use Rattle.typing_rows.specs.Valued.{body_in, bodies_of, is_unguarded, are_unguarded, right_in, rights_of, value_operands, are_values}
use Rattle.typing_rows.proofs.Going.{operands_carried}
use Rattle.typing_rows.proofs.Valued.{value_term, carried_row, values_carried, assert_value, application_value, built_by_none, built_of_more, built_of_one}
use Rattle.binding_rows.specs.Decided.{IsAmong, FindsValue, FindsValues, FindsRowValue}
use Rattle.binding_rows.proofs.Valued.{match_value, match_never, match_carried, let_value, let_carried}
use Rattle.record_rows.specs.NonExpansive.{field_value_in, field_values}
use Rattle.value_forms.specs.Heads.{row_at, constructor_at, is_false_at}
use Rattle.value_forms.proofs.Nodes.{row_of_node, rows_same, row_named, parts_count}
use Rattle.value_forms.proofs.FalseLaws.{false_at}
use Rattle.value_forms.proofs.ConstructorLaws.{operand_no, operand_is}

-- an expression that is missing
pub value_missing : (env : List Entry) (o : Operand) → o.node ≡ None → FindsValue env (operand_view o) true
value_missing env o none carried i c among = subst (λ m. (expression_of i (numbered o.number (place_of o.span) (part_of m o.span))).is_value c ≡ true) (sym none) refl

-- what is made of something that isn't there, and of something that is
pub none_by : {A B : Type 0} (f : A → B) (o : Option A) (r : Option B) → o ≡ None → option_map f o ≡ r → None ≡ r
none_by f o r none is = ap (option_map f) (sym none) ∙ is

pub some_by : {A B : Type 0} (f : A → B) (o : Option A) (r : Option B) (x : A) → o ≡ Some x → option_map f o ≡ r → Some (f x) ≡ r
some_by f o r x some is = ap (option_map f) (sym some) ∙ is

-- what is said of a node is said of the operand that has it
abbrev pub IsValueOf : List Entry → Node → (number : ℕ) → Bool → Type 0
IsValueOf env nd n v = (place : Place) → IsCarried (numbered n place (inner (node_view nd))) → (i : ℕ) (c : Context) → IsAmong as_declared env c → (row_expression i n place (node_view nd)).is_value c ≡ v

-- one that is there
pub value_there : (env : List Entry) (o : Operand) (nd : Bor Node) (v : Bool) → o.node ≡ Some nd → IsValueOf env nd.now o.number v → FindsValue env (operand_view o) v
value_there env o nd v there by carried i c among =
    subst (λ m. (expression_of i (numbered o.number (place_of o.span) (part_of m o.span))).is_value c ≡ v) (sym there)
    (ap (λ e. e.is_value c) (expression_by_row i o.number (place_of o.span) (node_view nd.now)) ∙ by (place_of o.span) (subst (λ m. IsCarried (numbered o.number (place_of o.span) (part_of m o.span))) there carried) i c among)

-- one of a row of which more decides
pub value_of_row : (env : List Entry) (o : Operand) (nd : Bor Node) (r : Row) (v : Bool) → o.node ≡ Some nd → row_at (node_view nd.now) ≡ r → FindsRowValue env r o.number (node_view nd.now) v → FindsValue env (operand_view o) v
value_of_row env o nd r v there row by = value_there env o nd v there (by (rows_same (node_view nd.now) ∙ row))

-- rows by their names
pub row_app : (nd : Node) → (out-Node nd).row ≡ name.Eapp → row_at (node_view nd) ≡ eapp_row
unfolding row_of
row_app nd e = row_named nd name.Eapp e

row_assert : (nd : Node) → (out-Node nd).row ≡ name.Eassert → row_at (node_view nd) ≡ eassert_row
unfolding row_of
row_assert nd e = row_named nd name.Eassert e

not_app : (r : RowName) → (r ≡ name.Eapp → ⊥) → row_of r ≡ eapp_row → ⊥
unfolding row_of
not_app name.Eapp apart e = apart refl
not_app _ apart e = cc

pub row_match : (nd : Node) → (out-Node nd).row ≡ name.Ematch → row_at (node_view nd) ≡ ematch_row
unfolding row_of
row_match nd e = row_named nd name.Ematch e

pub row_let : (nd : Node) → (out-Node nd).row ≡ name.Elet → row_at (node_view nd) ≡ elet_row
unfolding row_of
row_let nd e = row_named nd name.Elet e

not_match : (r : RowName) → (r ≡ name.Ematch → ⊥) → row_of r ≡ ematch_row → ⊥
unfolding row_of
not_match name.Ematch apart e = apart refl
not_match _ apart e = cc

not_let : (r : RowName) → (r ≡ name.Elet → ⊥) → row_of r ≡ elet_row → ⊥
unfolding row_of
not_let name.Elet apart e = apart refl
not_let _ apart e = cc

not_assert : (r : RowName) → (r ≡ name.Eassert → ⊥) → row_of r ≡ eassert_row → ⊥
unfolding row_of
not_assert name.Eassert apart e = apart refl
not_assert _ apart e = cc

pub row_record : (nd : Node) → (out-Node nd).row ≡ name.Erecord → row_at (node_view nd) ≡ erecord_row
unfolding row_of
row_record nd e = row_named nd name.Erecord e

not_record : (r : RowName) → (r ≡ name.Erecord → ⊥) → row_of r ≡ erecord_row → ⊥
unfolding row_of
not_record name.Erecord apart e = apart refl
not_record _ apart e = cc

-- `assert`
pub value_assert : (env : List Entry) (nd : Node) (n : ℕ) (o : Operand) → (out-Node nd).row ≡ name.Eassert → operand_view o ≡ filled_in n (node_view nd) 1 → IsValueOf env nd n (is_false_at (operand_view o).part)
value_assert env nd n o e here = λ place h i c among.
    assert_value i n place (node_view nd) h.formed (rows_same (node_view nd) ∙ row_assert nd e) c ∙ false_at i (filled_in n (node_view nd) 1) ∙ ap (λ x. is_false_at x.part) (sym here)

-- a row that isn't one of those of which more decides
pub record IsOther (r : RowName) : Type 0 where
  pub application : r ≡ name.Eapp → ⊥
  pub assertion : r ≡ name.Eassert → ⊥
  pub matching : r ≡ name.Ematch → ⊥
  pub binding : r ≡ name.Elet → ⊥
  pub recording : r ≡ name.Erecord → ⊥

-- a row by its operands
value_by : (nd : Node) (n : ℕ) (o : Option (List Numbered)) → IsOther (out-Node nd).row → o ≡ value_operands (row_at (node_view nd)) n (node_view nd) → (place : Place) → IsCarried (numbered n place (inner (node_view nd))) →
    (i : ℕ) (c : Context) → (row_expression i n place (node_view nd)).is_value c ≡ are_values c i o
value_by nd n o other is place h i c =
    let t = node_view nd in
    let (ps, carried) = carried_row t h.rows in
    value_term i n place t ps (row_at t) h.formed (rows_same t) (subst (λ r. IsCarriedRow r t ps) (rows_same t) carried)
    (record {
      application = λ e. not_app (out-Node nd).row other.application (sym (row_of_node nd) ∙ e);
      assertion = λ e. not_assert (out-Node nd).row other.assertion (sym (row_of_node nd) ∙ e);
      matching = λ e. not_match (out-Node nd).row other.matching (sym (row_of_node nd) ∙ e);
      binding = λ e. not_let (out-Node nd).row other.binding (sym (row_of_node nd) ∙ e);
      recording = λ e. not_record (out-Node nd).row other.recording (sym (row_of_node nd) ∙ e);
    }) c ∙ ap (are_values c i) (sym is)

-- one that never is
pub value_never : (env : List Entry) (nd : Node) (n : ℕ) → IsOther (out-Node nd).row → None ≡ value_operands (row_at (node_view nd)) n (node_view nd) → IsValueOf env nd n false
value_never env nd n other is = λ place h i c among. value_by nd n None other is place h i c

-- one whose operands decide
pub value_parts : (env : List Entry) (nd : Node) (n : ℕ) (os : List Operand) (v : Bool) → IsOther (out-Node nd).row → Some (map operand_view os) ≡ value_operands (row_at (node_view nd)) n (node_view nd) → FindsValues env (map operand_view os) v → IsValueOf env nd n v
value_parts env nd n os v other is values = λ place h i c among.
    value_by nd n (Some (map operand_view os)) other is place h i c ∙
    values (values_carried n place (node_view nd) (map operand_view os) h (ap (λ r. value_operands r n (node_view nd)) (rows_same (node_view nd)) ∙ sym is)) i c among

-- an application whose head is no constructor
pub built_not : (env : List Entry) (nd : Node) (n : ℕ) (head : Operand) → operand_view head ≡ filled_in n (node_view nd) 0 → is_some (constructor_at (operand_view head).part) ≡ false → FindsRowValue env eapp_row n (node_view nd) false
built_not env nd n head here none row = λ place h i c among.
    application_value i n place (node_view nd) h.formed row c ∙ built_by_none c (expressions_of i (operands_in n (node_view nd) 1)) (expression_of i (filled_in n (node_view nd) 0)).form
    (operand_no i (filled_in n (node_view nd) 0) (no_path (constructor_at (filled_in n (node_view nd) 0).part) (ap (λ o. is_some (constructor_at o.part)) (sym here) ∙ none)))
  where
    no_path : (o : Option Written) → is_some o ≡ false → o ≡ None
    no_path None e = refl
    no_path (Some p) e = absurd (cc)

-- one without one argument
pub built_of_others : (env : List Entry) (nd : Node) (n : ℕ) (os : List Operand) → map operand_view os ≡ operands_in n (node_view nd) 1 → (length os == 1) ≡ false → FindsRowValue env eapp_row n (node_view nd) false
built_of_others env nd n os given others row = λ place h i c among.
    application_value i n place (node_view nd) h.formed row c ∙
    built_of_more c (expressions_of i (operands_in n (node_view nd) 1)) (expression_of i (filled_in n (node_view nd) 0)).form (ap (λ k. k == 1) (ap (λ xs. length (expressions_of i xs)) (sym given) ∙ parts_count i os) ∙ others)

-- one of a constructor with one argument
pub built_is : (env : List Entry) (nd : Node) (n : ℕ) (head : Operand) (os : List Operand) (v : Bool) → operand_view head ≡ filled_in n (node_view nd) 0 → map operand_view os ≡ operands_in n (node_view nd) 1 → (length os == 1) ≡ true →
    is_some (constructor_at (operand_view head).part) ≡ true → FindsValues env (map operand_view os) v → FindsRowValue env eapp_row n (node_view nd) v
built_is env nd n head os v here given one some values row = λ place h i c among.
    let (p, named) = path (constructor_at (filled_in n (node_view nd) 0).part) (ap (λ o. is_some (constructor_at o.part)) (sym here) ∙ some) in
    application_value i n place (node_view nd) h.formed row c ∙
    built_of_one c (expressions_of i (operands_in n (node_view nd) 1)) (expression_of i (filled_in n (node_view nd) 0)).form (path_of p) (operand_is i (filled_in n (node_view nd) 0) p named)
    (ap (λ k. k == 1) (ap (λ xs. length (expressions_of i xs)) (sym given) ∙ parts_count i os) ∙ one) ∙
    ap (λ xs. all_values c (expressions_of i xs)) (sym given) ∙ values (subst (All IsCarried) (sym given) (operands_carried n place (node_view nd) 1 (ap (λ r. sort_in r 1) row) h)) i c among
  where
    path : (o : Option Written) → is_some o ≡ true → (p : Written) × (o ≡ Some p)
    path None e = absurd (cc)
    path (Some p) e = (p, refl)

-- an operand that is read from a list of carried ones
read_carried : (os : List Operand) (k : ℕ) (x : Operand) → k < length os → x ≡ slice_index_or os k x → All IsCarried (map operand_view os) → IsCarried (operand_view x)
read_carried [] k x lt e all = absurd (omega arith)
read_carried (o ∷ os) zero x lt e all = subst (λ z. IsCarried (operand_view z)) (sym e) (All-head IsCarried (operand_view o) (map operand_view os) all)
read_carried (o ∷ os) (suc k) x lt e all = read_carried os k x (omega arith) e (All-tail IsCarried (operand_view o) (map operand_view os) all)

-- what is left of some operands
abbrev pub ValuesLeft : List Entry → (all left : List Operand) → Type 0
ValuesLeft env all left = All IsCarried (map operand_view all) → (i : ℕ) (c : Context) → IsAmong as_declared env c → all_values c (expressions_of i (map operand_view all)) ≡ all_values c (expressions_of i (map operand_view left))

-- one operand more
pub values_one : (env : List Entry) (os : List Operand) (k : ℕ) (x : Operand) (v : Bool) → k < length os → x ≡ slice_index_or os k x → ValuesLeft env os (drop k os) → FindsValue env (operand_view x) v →
    All IsCarried (map operand_view os) → (i : ℕ) (c : Context) → IsAmong as_declared env c → all_values c (expressions_of i (map operand_view os)) ≡ (v && all_values c (expressions_of i (map operand_view (drop (k + 1) os))))
values_one env os k x v lt e left value all i c among =
    left all i c among ∙ ap (λ ys. all_values c (expressions_of i (map operand_view ys))) (drop_read os k x lt e) ∙
    ap (λ b. b && all_values c (expressions_of i (map operand_view (drop (k + 1) os)))) (value (read_carried os k x lt e all) i c among)

-- a list that is one, and then further ones
more_listed : {A : Type 0} (now before one rest all : List A) → now ≡ before ++ one → all ≡ one ++ rest → now ++ rest ≡ before ++ all
more_listed now before one rest all is split = ap (λ xs. xs ++ rest) is ∙ append_assoc before one rest ∙ ap (λ xs. before ++ xs) (sym split)

-- the operands to add to those of before, where some are left
abbrev pub LeftToAdd : (add : List Numbered → List Numbered) → (all left : List Operand) → (before now : List Operand) → Type 0
LeftToAdd add all left before now = map operand_view now ++ add (map operand_view left) ≡ map operand_view before ++ add (map operand_view all)

-- one more is added
added_one : (add : List Numbered → List Numbered) (one : Numbered → Option Numbered) (all : List Operand) (k : ℕ) (x : Operand) (before old now : List Operand) → ((o : Numbered) (os : List Numbered) → add (o ∷ os) ≡ option_to_list (one o) ++ add os) →
    k < length all → x ≡ slice_index_or all k x → LeftToAdd add all (drop k all) before old → map operand_view now ≡ map operand_view old ++ option_to_list (one (operand_view x)) → LeftToAdd add all (drop (k + 1) all) before now
added_one add one all k x before old now more lt e left is =
    more_listed (map operand_view now) (map operand_view old) (option_to_list (one (operand_view x))) (add (map operand_view (drop (k + 1) all))) (add (map operand_view (drop k all))) is
    (ap add (ap (map operand_view) (drop_read all k x lt e)) ∙ more (operand_view x) (map operand_view (drop (k + 1) all))) ∙ left

option_front : {A : Type 0} (o : Option A) (xs : List A) → cons_option o xs ≡ option_to_list o ++ xs
option_front None xs = refl
option_front (Some x) xs = refl

-- the value of a field more
pub value_added : (all : List Operand) (k : ℕ) (x : Operand) (before old now : List Operand) → k < length all → x ≡ slice_index_or all k x → LeftToAdd field_values all (drop k all) before old →
    map operand_view now ≡ map operand_view old ++ option_to_list (field_value_in x.number (operand_view x).part) → LeftToAdd field_values all (drop (k + 1) all) before now
value_added all k x before old now lt e left is = added_one field_values (λ o. field_value_in o.number o.part) all k x before old now (λ o os. option_front (field_value_in o.number o.part) (field_values os)) lt e left is

-- a right side more
pub right_added : (all : List Operand) (k : ℕ) (x : Operand) (before old now : List Operand) → k < length all → x ≡ slice_index_or all k x → LeftToAdd rights_of all (drop k all) before old →
    map operand_view now ≡ map operand_view old ++ option_to_list (right_in x.number (operand_view x).part) → LeftToAdd rights_of all (drop (k + 1) all) before now
right_added all k x before old now lt e left is = added_one rights_of (λ o. right_in o.number o.part) all k x before old now (λ o os. option_front (right_in o.number o.part) (rights_of os)) lt e left is

-- a body more
pub body_added : (all : List Operand) (k : ℕ) (x : Operand) (before old now : List Operand) → k < length all → x ≡ slice_index_or all k x → LeftToAdd bodies_of all (drop k all) before old →
    map operand_view now ≡ map operand_view old ++ option_to_list (body_in x.number (operand_view x).part) → LeftToAdd bodies_of all (drop (k + 1) all) before now
body_added all k x before old now lt e left is = added_one bodies_of (λ o. body_in o.number o.part) all k x before old now (λ o os. option_front (body_in o.number o.part) (bodies_of os)) lt e left is

-- whether the cases from a place on are unguarded
pub guard_read : (all : List Operand) (k : ℕ) (x : Operand) (v : Bool) → k < length all → x ≡ slice_index_or all k x → is_unguarded x.number (operand_view x).part ≡ v → are_unguarded (map operand_view all) ≡ are_unguarded (map operand_view (drop k all)) →
    are_unguarded (map operand_view all) ≡ (v && are_unguarded (map operand_view (drop (k + 1) all)))
guard_read all k x v lt e one left = left ∙ ap (λ os. are_unguarded (map operand_view os)) (drop_read all k x lt e) ∙ ap (λ b. b && are_unguarded (map operand_view (drop (k + 1) all))) one

-- no case is left
pub guards_end : (all : List Operand) (k : ℕ) → length all ≤ k → are_unguarded (map operand_view all) ≡ are_unguarded (map operand_view (drop k all)) → are_unguarded (map operand_view all) ≡ true
guards_end all k le left = left ∙ ap (λ os. are_unguarded (map operand_view os)) (drop_all k all le)

-- all are added
pub added_all : (add : List Numbered → List Numbered) → (let none : List Numbered = [] in add none ≡ none) → (all : List Operand) (k : ℕ) (before now : List Operand) → length all ≤ k → LeftToAdd add all (drop k all) before now → map operand_view now ≡ map operand_view before ++ add (map operand_view all)
added_all add none all k before now le left = sym (append-nil (map operand_view now)) ∙ ap (λ xs. map operand_view now ++ xs) (sym none) ∙ ap (λ os. map operand_view now ++ add (map operand_view os)) (sym (drop_all k all le)) ∙ left

-- a match by the operands that were gathered
pub match_gathered : (env : List Entry) (nd : Node) (n : ℕ) (parts subject cases : List Operand) (v : Bool) → map operand_view subject ≡ operands_in n (node_view nd) 1 → map operand_view cases ≡ operands_in n (node_view nd) 4 → are_unguarded (map operand_view cases) ≡ true →
    map operand_view parts ≡ map operand_view subject ++ bodies_of (map operand_view cases) → FindsValues env (map operand_view parts) v → FindsRowValue env ematch_row n (node_view nd) v
match_gathered env nd n parts subject cases v first given free is values row = λ place h i c among.
    let same : map operand_view parts ≡ operands_in n (node_view nd) 1 ++ bodies_of (operands_in n (node_view nd) 4) = is ∙ (λ k. first k ++ bodies_of (given k)) in
    match_value i n place (node_view nd) row h (ap are_unguarded (sym given) ∙ free) c ∙ ap (λ xs. all_values c (expressions_of i xs)) (sym same) ∙
    values (subst (All IsCarried) (sym same) (match_carried n place (node_view nd) row h)) i c among

-- a match with a guard
pub match_guarded : (env : List Entry) (nd : Node) (n : ℕ) (cases : List Operand) → map operand_view cases ≡ operands_in n (node_view nd) 4 → are_unguarded (map operand_view cases) ≡ false → FindsRowValue env ematch_row n (node_view nd) false
match_guarded env nd n cases given held row = λ place h i c among. match_never i n place (node_view nd) row h (ap are_unguarded (sym given) ∙ held) c

-- a `let` by the operands that were gathered
pub let_gathered : (env : List Entry) (nd : Node) (n : ℕ) (parts body bindings : List Operand) (v : Bool) → map operand_view body ≡ operands_in n (node_view nd) 5 → map operand_view bindings ≡ operands_in n (node_view nd) 2 →
    map operand_view parts ≡ map operand_view body ++ rights_of (map operand_view bindings) → FindsValues env (map operand_view parts) v → FindsRowValue env elet_row n (node_view nd) v
let_gathered env nd n parts body bindings v last given is values row = λ place h i c among.
    let same : map operand_view parts ≡ operands_in n (node_view nd) 5 ++ rights_of (operands_in n (node_view nd) 2) = is ∙ (λ k. last k ++ rights_of (given k)) in
    let_value i n place (node_view nd) row h c ∙ ap (λ xs. all_values c (expressions_of i xs)) (sym same) ∙ values (subst (All IsCarried) (sym same) (let_carried n place (node_view nd) row h)) i c among
