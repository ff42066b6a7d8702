-- What the grammar's table says of the slots and the names of its rows.
use Rattle.std.proofs.Common.{◌≡◌, ◌==◌, ◌||◌, ◌&&◌, ℕ, Bool, true, false, not, refl, subst, arith, if◌then◌else◌}
use Rattle.std.specs.Prelude.{slice_get}
use Rattle.std.proofs.lemmas.Bool.{and_parts}
use Rattle.tree_model.specs.Rows as names
use Rattle.tree_model.specs.Rows.{let_row, type_row, exception_row, module_row, modtype_row, open_row, include_row, break_row, con_row, pname_row, pany_row, pconst_row, pneg_row, pcon_row, pparen_row, plist_row, precord_row, papp_row, pcons_row, ptuple_row, por_row, pas_row, qfield_row, binding_row, case_row, ffield_row, name_row, econ_row, epath_row, econst_row, hole_row, eparen_row, ebegin_row, elist_row, erecord_row, prefix_row, field_row, eapp_row, eassert_row, ewhile_row, efor_row, eneg_row, infix_row, econs_row, etuple_row, eset_row, eif_row, eseq_row, elet_row, ematch_row, etry_row, efun_row, efunction_row, mstruct_row}
use Rattle.grammar_model.specs.Tables.{What, nothing, token, operand}
use Rattle.grammar_model.specs.Rows.{Row, row_at, or_else, is_left, no_row}
use Rattle.grammar_model.specs.Checks.{each, each_spot, all_of}
use Rattle.grammar_model.specs.Keys.{minus_key, minus_point_key}
use Rattle.grammar_model.specs.Named.{slot_of}
use Rattle.grammar_model.specs.Words.{row_names, item, expression, pattern, binding, case, constructor, field, field_pattern}
use Rattle.grammar_model.specs.Ocaml.{rows, Text, grammar, row_name}
use Rattle.grammar_laws.proofs.Instance.{each_row, spot_get}
use Rattle.typing_rows.specs.CarriedRows.{Sort, an_expression, a_pattern, a_type, a_field_pattern, a_field, a_case, a_binding, sort_in}
use Rattle.parsed_rows.specs.Sorts.{sort_number}

-- the name of a row
abbrev name_of : Row → names.Row
name_of w = or_else names.program_row (slice_get row_names w.name)

-- a name of a row of expressions
abbrev pub is_expression_row : names.Row → Bool
is_expression_row name_row = true
is_expression_row econ_row = true
is_expression_row epath_row = true
is_expression_row econst_row = true
is_expression_row hole_row = true
is_expression_row eparen_row = true
is_expression_row ebegin_row = true
is_expression_row elist_row = true
is_expression_row erecord_row = true
is_expression_row prefix_row = true
is_expression_row field_row = true
is_expression_row eapp_row = true
is_expression_row eassert_row = true
is_expression_row ewhile_row = true
is_expression_row efor_row = true
is_expression_row eneg_row = true
is_expression_row infix_row = true
is_expression_row econs_row = true
is_expression_row etuple_row = true
is_expression_row eset_row = true
is_expression_row eif_row = true
is_expression_row eseq_row = true
is_expression_row elet_row = true
is_expression_row ematch_row = true
is_expression_row etry_row = true
is_expression_row efun_row = true
is_expression_row efunction_row = true
is_expression_row _ = false

-- a name of a row of patterns
abbrev pub is_pattern_row : names.Row → Bool
is_pattern_row pname_row = true
is_pattern_row pany_row = true
is_pattern_row pconst_row = true
is_pattern_row pneg_row = true
is_pattern_row pcon_row = true
is_pattern_row pparen_row = true
is_pattern_row plist_row = true
is_pattern_row precord_row = true
is_pattern_row papp_row = true
is_pattern_row pcons_row = true
is_pattern_row ptuple_row = true
is_pattern_row por_row = true
is_pattern_row pas_row = true
is_pattern_row _ = false

-- the name of the rows of fields of record patterns
abbrev pub is_field_pattern_row : names.Row → Bool
is_field_pattern_row qfield_row = true
is_field_pattern_row _ = false

-- the name of the rows of fields of record expressions
abbrev pub is_field_row : names.Row → Bool
is_field_row ffield_row = true
is_field_row _ = false

-- the name of the row of cases
abbrev pub is_case_row : names.Row → Bool
is_case_row case_row = true
is_case_row _ = false

-- the name of the row of bindings
abbrev pub is_binding_row : names.Row → Bool
is_binding_row binding_row = true
is_binding_row _ = false

-- a name of a row of a sort; of types nothing is asked
abbrev pub is_row_of : Sort → names.Row → Bool
is_row_of an_expression r = is_expression_row r
is_row_of a_pattern r = is_pattern_row r
is_row_of a_type r = true
is_row_of a_field_pattern r = is_field_pattern_row r
is_row_of a_field r = is_field_row r
is_row_of a_case r = is_case_row r
is_row_of a_binding r = is_binding_row r

-- where a row is of a sort, so is its name
abbrev name_fits : Sort → ℕ → Row → Bool
name_fits k i w = if w.sort == sort_number k then is_row_of k (name_of w) else true

each_name_fits : (k : Sort) → each 0 rows (name_fits k) ≡ true
unfolding rows
each_name_fits an_expression = refl
each_name_fits a_pattern = refl
each_name_fits a_type = refl
each_name_fits a_field_pattern = refl
each_name_fits a_field = refl
each_name_fits a_case = refl
each_name_fits a_binding = refl

no_row_fits : (k : Sort) (i : ℕ) → name_fits k i no_row ≡ true
no_row_fits an_expression i = refl
no_row_fits a_pattern i = refl
no_row_fits a_type i = refl
no_row_fits a_field_pattern i = refl
no_row_fits a_field i = refl
no_row_fits a_case i = refl
no_row_fits a_binding i = refl

-- what follows from a test that holds
pub then_of : (b c : Bool) → b ≡ true → (if b then c else true) ≡ true → c ≡ true
then_of true c e h = h
then_of false c e h = absurd (cc)

same_number : (m n : ℕ) → m ≡ n → (m == n) ≡ true
same_number m n e = grind arith

-- a row of a sort has the name of one
pub row_of_sort : (text : Text) (k : Sort) (r : ℕ) → (grammar text).sort r ≡ sort_number k → is_row_of k (row_name r) ≡ true
row_of_sort text k r e =
    then_of ((grammar text).sort r == sort_number k) (is_row_of k (row_name r)) (same_number ((grammar text).sort r) (sort_number k) e) (each_row (name_fits k) rows (each_name_fits k) (no_row_fits k) r)

-- the table's sorts of whose slots the sorts are known: those of rows that stand in expressions
abbrev pub is_inside : ℕ → Bool
is_inside s = s == expression || s == pattern || s == field_pattern || s == field || s == case || s == binding

-- an operand has the sort of its slot
abbrev pub sort_fits : names.Row → ℕ → What → Bool
sort_fits r p nothing = true
sort_fits r p (token ks) = true
sort_fits r p (operand s n) = s == sort_number (sort_in r (slot_of p))

-- so has each operand of such a row, and its left one
abbrev sorts_fit : ℕ → Row → Bool
sorts_fit i w = if is_inside w.sort then each_spot 0 w.spots (λ p s. sort_fits (name_of w) p s.what) && (if is_left w.left then w.sort == sort_number (sort_in (name_of w) 0) else true) else true

each_sorts_fit : each 0 rows sorts_fit ≡ true
unfolding rows
each_sorts_fit = refl

sorts_known : (text : Text) (r : ℕ) → is_inside ((grammar text).sort r) ≡ true →
    (each_spot 0 (row_at rows r).spots (λ p s. sort_fits (row_name r) p s.what) ≡ true) × ((if (grammar text).has_left r then (grammar text).sort r == sort_number (sort_in (row_name r) 0) else true) ≡ true)
sorts_known text r inside =
    let spots = each_spot 0 (row_at rows r).spots (λ p s. sort_fits (row_name r) p s.what) in
    let left = (if (grammar text).has_left r then (grammar text).sort r == sort_number (sort_in (row_name r) 0) else true) in
    and_parts spots left (then_of (is_inside ((grammar text).sort r)) (spots && left) inside (each_row sorts_fit rows each_sorts_fit (λ j. refl) r))

-- what stands at a spot of such a row has the sort of the spot's slot
pub spot_sort : (text : Text) (r p : ℕ) → is_inside ((grammar text).sort r) ≡ true → sort_fits (row_name r) p ((grammar text).what r p) ≡ true
spot_sort text r p inside =
    subst (λ j. sort_fits (row_name r) j ((grammar text).what r p) ≡ true) (omega arith)
    (spot_get (λ q s. sort_fits (row_name r) q s.what) (row_at rows r).spots 0 (sorts_known text r inside).0 p (λ j. refl))

-- and the left operand of such a row that of the slot 0
pub left_sort : (text : Text) (r : ℕ) → is_inside ((grammar text).sort r) ≡ true → (grammar text).has_left r ≡ true → ((grammar text).sort r == sort_number (sort_in (row_name r) 0)) ≡ true
left_sort text r inside left = then_of ((grammar text).has_left r) ((grammar text).sort r == sort_number (sort_in (row_name r) 0)) left (sorts_known text r inside).1

-- the name of the rows of `-` before an expression
abbrev pub is_minus_row : names.Row → Bool
is_minus_row eneg_row = true
is_minus_row _ = false

-- the key of a minus sign
abbrev pub is_minus_key : ℕ → Bool
is_minus_key k = k == minus_key || k == minus_point_key

-- in the slot 0 only minus signs stand
abbrev pub sign_fits : ℕ → What → Bool
sign_fits p nothing = true
sign_fits p (token ks) = if slot_of p == 0 then all_of ks is_minus_key else true
sign_fits p (operand s n) = true

abbrev signs_fit : ℕ → Row → Bool
signs_fit i w = if is_minus_row (name_of w) then each_spot 0 w.spots (λ p s. sign_fits p s.what) else true

each_signs_fit : each 0 rows signs_fit ≡ true
unfolding rows
each_signs_fit = refl

-- so it is in each row of `-`
pub spot_sign : (text : Text) (r p : ℕ) → is_minus_row (row_name r) ≡ true → sign_fits p ((grammar text).what r p) ≡ true
spot_sign text r p minus =
    let spots = each_spot 0 (row_at rows r).spots (λ p s. sign_fits p s.what) in
    subst (λ j. sign_fits j ((grammar text).what r p) ≡ true) (omega arith)
    (spot_get (λ q s. sign_fits q s.what) (row_at rows r).spots 0 (then_of (is_minus_row (row_name r)) spots minus (each_row signs_fit rows each_signs_fit (λ j. refl) r)) p (λ j. refl))

-- the name of the row of `let` without `in`
abbrev pub is_let_row : names.Row → Bool
is_let_row let_row = true
is_let_row _ = false

-- an operand in the slot 2 is a binding
abbrev pub binding_fits : ℕ → What → Bool
binding_fits p nothing = true
binding_fits p (token ks) = true
binding_fits p (operand s n) = if slot_of p == 2 then s == binding else true

abbrev bindings_fit : ℕ → Row → Bool
bindings_fit i w = if is_let_row (name_of w) then not (is_left w.left) && each_spot 0 w.spots (λ p s. binding_fits p s.what) else true

each_bindings_fit : each 0 rows bindings_fit ≡ true
unfolding rows
each_bindings_fit = refl

bindings_known : (text : Text) (r : ℕ) → is_let_row (row_name r) ≡ true → (not ((grammar text).has_left r) ≡ true) × (each_spot 0 (row_at rows r).spots (λ p s. binding_fits p s.what) ≡ true)
bindings_known text r is =
    let spots = each_spot 0 (row_at rows r).spots (λ p s. binding_fits p s.what) in
    let first = not ((grammar text).has_left r) in
    and_parts first spots (then_of (is_let_row (row_name r)) (first && spots) is (each_row bindings_fit rows each_bindings_fit (λ j. refl) r))

-- so it is in the row of `let`
pub spot_binding : (text : Text) (r p : ℕ) → is_let_row (row_name r) ≡ true → binding_fits p ((grammar text).what r p) ≡ true
spot_binding text r p is =
    subst (λ j. binding_fits j ((grammar text).what r p) ≡ true) (omega arith)
    (spot_get (λ q s. binding_fits q s.what) (row_at rows r).spots 0 (bindings_known text r is).1 p (λ j. refl))

-- which has no left operand
pub let_alone : (text : Text) (r : ℕ) → is_let_row (row_name r) ≡ true → not ((grammar text).has_left r) ≡ true
let_alone text r is = (bindings_known text r is).0

-- the name of the rows of exceptions
abbrev pub is_exception_row : names.Row → Bool
is_exception_row exception_row = true
is_exception_row _ = false

-- an operand is a constructor
abbrev pub constructor_fits : What → Bool
constructor_fits nothing = true
constructor_fits (token ks) = true
constructor_fits (operand s n) = s == constructor

abbrev exceptions_fit : ℕ → Row → Bool
exceptions_fit i w = if is_exception_row (name_of w) then not (is_left w.left) && each_spot 0 w.spots (λ p s. constructor_fits s.what) else true

each_exception_fits : each 0 rows exceptions_fit ≡ true
unfolding rows
each_exception_fits = refl

exceptions_known : (text : Text) (r : ℕ) → is_exception_row (row_name r) ≡ true → (not ((grammar text).has_left r) ≡ true) × (each_spot 0 (row_at rows r).spots (λ p s. constructor_fits s.what) ≡ true)
exceptions_known text r is =
    let spots = each_spot 0 (row_at rows r).spots (λ p s. constructor_fits s.what) in
    let first = not ((grammar text).has_left r) in
    and_parts first spots (then_of (is_exception_row (row_name r)) (first && spots) is (each_row exceptions_fit rows each_exception_fits (λ j. refl) r))

-- so it is in the rows of exceptions
pub spot_constructor : (text : Text) (r p : ℕ) → is_exception_row (row_name r) ≡ true → constructor_fits ((grammar text).what r p) ≡ true
spot_constructor text r p is = spot_get (λ q s. constructor_fits s.what) (row_at rows r).spots 0 (exceptions_known text r is).1 p (λ j. refl)

-- which have no left operand
pub exception_alone : (text : Text) (r : ℕ) → is_exception_row (row_name r) ≡ true → not ((grammar text).has_left r) ≡ true
exception_alone text r is = (exceptions_known text r is).0

-- the name of the row of constructors
abbrev pub is_con_row : names.Row → Bool
is_con_row con_row = true
is_con_row _ = false

abbrev con_name_fits : ℕ → Row → Bool
con_name_fits i w = if w.sort == constructor then is_con_row (name_of w) else true

each_con_name_fits : each 0 rows con_name_fits ≡ true
unfolding rows
each_con_name_fits = refl

-- a row of constructors has it
pub row_of_constructor : (text : Text) (r : ℕ) → (grammar text).sort r ≡ constructor → is_con_row (row_name r) ≡ true
row_of_constructor text r e =
    then_of ((grammar text).sort r == constructor) (is_con_row (row_name r)) (same_number ((grammar text).sort r) constructor e) (each_row con_name_fits rows each_con_name_fits (λ j. refl) r)

-- a name of a row of items
abbrev pub is_item_row : names.Row → Bool
is_item_row let_row = true
is_item_row type_row = true
is_item_row exception_row = true
is_item_row module_row = true
is_item_row modtype_row = true
is_item_row open_row = true
is_item_row include_row = true
is_item_row break_row = true
is_item_row _ = false

abbrev item_name_fits : ℕ → Row → Bool
item_name_fits i w = if w.sort == item then is_item_row (name_of w) else true

each_item_name_fits : each 0 rows item_name_fits ≡ true
unfolding rows
each_item_name_fits = refl

-- a row of items has the name of one
pub row_of_item : (text : Text) (r : ℕ) → (grammar text).sort r ≡ item → is_item_row (row_name r) ≡ true
row_of_item text r e =
    then_of ((grammar text).sort r == item) (is_item_row (row_name r)) (same_number ((grammar text).sort r) item e) (each_row item_name_fits rows each_item_name_fits (λ j. refl) r)

-- only items stand in the row of a program
abbrev pub item_fits : What → Bool
item_fits nothing = true
item_fits (token ks) = true
item_fits (operand s n) = s == item

each_item_fits : each_spot 0 (row_at rows 0).spots (λ p s. item_fits s.what) ≡ true
unfolding rows
each_item_fits = refl

-- so it is at each spot
pub spot_item : (text : Text) (p : ℕ) → item_fits ((grammar text).what 0 p) ≡ true
spot_item text p = spot_get (λ q s. item_fits s.what) (row_at rows 0).spots 0 each_item_fits p (λ j. refl)

-- and it has no left operand
pub program_alone : (text : Text) → (grammar text).has_left 0 ≡ false
unfolding rows
program_alone text = refl

-- the name of the row of structures
abbrev pub is_structure_row : names.Row → Bool
is_structure_row mstruct_row = true
is_structure_row _ = false

-- only items stand in it
abbrev structures_fit : ℕ → Row → Bool
structures_fit i w = if is_structure_row (name_of w) then not (is_left w.left) && each_spot 0 w.spots (λ p s. item_fits s.what) else true

each_structure_fits : each 0 rows structures_fit ≡ true
unfolding rows
each_structure_fits = refl

structures_known : (text : Text) (r : ℕ) → is_structure_row (row_name r) ≡ true → (not ((grammar text).has_left r) ≡ true) × (each_spot 0 (row_at rows r).spots (λ p s. item_fits s.what) ≡ true)
structures_known text r is =
    let spots = each_spot 0 (row_at rows r).spots (λ p s. item_fits s.what) in
    let first = not ((grammar text).has_left r) in
    and_parts first spots (then_of (is_structure_row (row_name r)) (first && spots) is (each_row structures_fit rows each_structure_fits (λ j. refl) r))

-- so it is at each spot of it
pub spot_structure : (text : Text) (r p : ℕ) → is_structure_row (row_name r) ≡ true → item_fits ((grammar text).what r p) ≡ true
spot_structure text r p is = spot_get (λ q s. item_fits s.what) (row_at rows r).spots 0 (structures_known text r is).1 p (λ j. refl)

-- and it has no left operand
pub structure_alone : (text : Text) (r : ℕ) → is_structure_row (row_name r) ≡ true → not ((grammar text).has_left r) ≡ true
structure_alone text r is = (structures_known text r is).0
