-- What records, cases and functions tell.
use Rattle.std.proofs.Common.{◌≡◌, ℕ, ◌+◌, Bool, false, List, [], ◌∷◌, ◌++◌, Option, Some, None, refl}
use Rattle.token_model.specs.Kinds.{Tok}
use Rattle.tree_model.specs.Trees.{Place}
use Rattle.type_model.specs.Types.{Typ}
use Rattle.signature_model.specs.Declarations.{Name, Declaration, type_of}
use Rattle.typing_model.specs.Demands.{equal, test, no_label, Condition}
use Rattle.typing_model.specs.Contexts.{Context, type_at, letter, ask, with_names}
use Rattle.typing_model.specs.Parts.{Form, a_constructor, a_path, a_float, a_false, a_field, no_expression, other, Expression, Pattern, Case, Field, place_of}
use Rattle.typing_model.specs.Names.{then_by, used_at}
use Rattle.typing_model.specs.Records.{name_in, field_type, ask_complete, absent_label, labels_in}
use Rattle.typing_model.specs.BuiltIns.{exn_type}
use Rattle.typing_model.specs.Patterns.{kept_record, all_names}
use Rattle.typing_model.specs.Bindings.{matched_apart}
use Rattle.typing_model.specs.Expressions.{has_type, pun_asks, field_value_asks, is_some, fields_ask, labels_of, names_of_labels, is_record, record_asks, first_field, before_labels, loose_value, typed_all, record_expression, update_expression, guard_asks, case_asks, later_cases, cases_ask, match_expression, try_expression, function_expression, fun_expression}
use Rattle.typing_laws.proofs.Steady.{Each, no_one, one_and, IfThere, absent, there}
use Rattle.over_laws.proofs.Told.{Around, IsIn, over_with, Told, silent, nothing_told, join, quiet, asked, told}
use Rattle.over_laws.proofs.Patterns.{ToldPattern, record_told, once_told}
use Rattle.over_laws.proofs.Expressions.{ToldExpression, all_typed, value_told, usual}

-- a field tells environments with values and exceptions in front where it stands in one
pub record ToldField (w : Around) (f : Field) : Type 0 where
  pub asks : (c : Context) (is_found : Bool) (names : List Name) (t : Option Typ) → IsIn w c → Told w (field_value_asks c is_found f names t)

abbrev pun_has : Context → Field → Tok → Option Typ → List Condition
pun_has c f x o = elim o [ None ↦ [] | Some t ↦ ask f.node 2 (place_of x) (equal (letter c f.node 0) t) ]

pun_told : {w : Around} (c : Context) (f : Field) (t : Option Typ) → Told w (pun_asks c f t)
pun_told {w} c f t = by f.label.last refl
  where
    has : (x : Tok) (t : Option Typ) → Told w (pun_has c f x t)
    has x None = nothing_told
    has x (Some t) = asked

    by : (o : Option Tok) → f.label.last ≡ o → Told w (pun_asks c f t)
    by None e = rw (e, pun_asks) nothing_told
    by (Some x) e = rw (e, pun_asks) (join (value_told c f.node 1 (record { qualifiers = []; last = Some x }) (letter c f.node 0)) (has x t))

-- that the value of a field has a type, if there is one
abbrev value_has : Context → Field → Expression → Option Typ → List Condition
value_has c f e o = elim o [ None ↦ [] | Some t ↦ has_type c f.node 2 e t ]

pub field_told : {w : Around} (f : Field) → IfThere (ToldExpression w) f.value → ToldField w f
field_told {w} f s = record { asks = λ c is_found names t o. by c is_found names t o f.value refl s }
  where
    has : (c : Context) (e : Expression) (t : Option Typ) → Told w (value_has c f e t)
    has c e None = nothing_told
    has c e (Some t) = asked

    by : (c : Context) (is_found : Bool) (names : List Name) (t : Option Typ) → IsIn w c → (o : Option Expression) → f.value ≡ o → IfThere (ToldExpression w) o → Told w (field_value_asks c is_found f names t)
    by c is_found names t o None e absent = rw (e, field_value_asks) (told o (join (once_told f.node is_found names f.label) (pun_told c f t)))
    by c is_found names t o (Some v) e (there z) = rw (e, field_value_asks) (told o (join (once_told f.node is_found names f.label) (join (z.types c o) (has c v t))))

fields_told : {w : Around} (c : Context) (o : IsIn w c) (n : ℕ) (found : Option Declaration) {fs : List Field} (names : List Name) → Each (ToldField w) fs → Told w (fields_ask c n found fs names)
fields_told c o n found names no_one = nothing_told
fields_told c o n found names (one_and {x = f} s rest) = join (s.asks c (is_some found) names (field_type c n f.node found f.label) o) (fields_told c o n found (names ++ name_in f.label) rest)

is_record_told : {w : Around} (c : Context) (n : ℕ) (o : Option Declaration) → Told w (is_record c n o)
is_record_told c n None = nothing_told
is_record_told c n (Some d) = silent (is_record c n (Some d)) (tt, tt)

complete_told : {w : Around} (n j : ℕ) (q : Place) (o : Option Declaration) (names : List Name) → Told w (ask_complete n j q o names)
complete_told {w} n j q o names = by (then_by o (λ d. absent_label (labels_in d.shape) names)) refl
  where
    by : (l : Option Name) → then_by o (λ d. absent_label (labels_in d.shape) names) ≡ l → Told w (ask_complete n j q o names)
    by None e = rw (e, ask_complete) nothing_told
    by (Some x) e = rw (e, ask_complete) asked

-- the fields of a record behind what a first part asks that is none
record_asked : {w : Around} (c : Context) (o : IsIn w c) (n : ℕ) (q : Place) {fs : List Field} {xs ys : List Condition} → Told w xs → Told w ys → Each (ToldField w) fs → Told w (record_asks c n q xs ys fs)
record_asked c o n q {fs} before loose each =
    let found : Option Declaration = kept_record c n 1 (labels_of fs) in
    join (join (join (join (join before (record_told c n 1 (labels_of fs))) loose) (fields_told c o n found [] each)) (complete_told n 3 q found (names_of_labels fs))) (is_record_told c n found)

abbrev as_list : Option Expression → List Expression
as_list o = elim o [ None ↦ [] | Some e ↦ e ∷ [] ]

list_typed : {w : Around} (c : Context) (l : IsIn w c) (o : Option Expression) → IfThere (ToldExpression w) o → Told w (typed_all c (as_list o))
list_typed c l None absent = nothing_told
list_typed c l (Some e) (there s) = all_typed c l (one_and s no_one)

pub erecord_told : {w : Around} (n : ℕ) (q : Place) (e : Expression) (value : Option Expression) (fs : List Field) → ToldExpression w e → IfThere (ToldExpression w) value → Each (ToldField w) fs → ToldExpression w (record_expression n q e value fs)
erecord_told {w} n q e value fs s v each = usual n q other _ _ (λ c o. by c o e.form)
  where
    loose : (c : Context) → IsIn w c → Told w (record_asks c n q (ask n 0 e.at (test no_label false) ++ e.typed c) (typed_all c (as_list value)) fs)
    loose c o = record_asked c o n q (join asked (s.types c o)) (list_typed c o value v) each

    by : (c : Context) → IsIn w c → (g : Form) → Told w (record_asks c n q (before_labels c n e g) (loose_value c g value) (first_field g e.node value ++ fs))
    by c o (a_path p) = record_asked c o n q nothing_told nothing_told (one_and (field_told (record { node = e.node; label = p; value = value }) v) each)
    by c o no_expression = record_asked c o n q (s.types c o) (list_typed c o value v) each
    by c o (a_constructor p) = loose c o
    by c o a_float = loose c o
    by c o a_false = loose c o
    by c o (a_field p l) = loose c o
    by c o other = loose c o

abbrev has_record : Context → ℕ → Expression → Option Declaration → List Condition
has_record c n e o = elim o [ None ↦ [] | Some d ↦ has_type c n 2 e (used_at c n (type_of d)) ]

has_record_told : {w : Around} (c : Context) (n : ℕ) (e : Expression) (o : Option Declaration) → Told w (has_record c n e o)
has_record_told c n e None = nothing_told
has_record_told c n e (Some d) = asked

pub eupdate_told : {w : Around} (n : ℕ) (q : Place) (e : Expression) (fs : List Field) → ToldExpression w e → Each (ToldField w) fs → ToldExpression w (update_expression n q e fs)
eupdate_told n q e fs s each = usual n q other _ _ (λ c o.
    let found : Option Declaration = kept_record c n 1 (labels_of fs) in
    join (join (join (join (s.types c o) (record_told c n 1 (labels_of fs))) (has_record_told c n e found)) (fields_told c o n found [] each)) (is_record_told c n found))

-- a case tells such environments too
pub record ToldCase (w : Around) (x : Case) : Type 0 where
  pub asks : (c : Context) (n j : ℕ) (subject : Typ) (result : Option Typ) → IsIn w c → Told w (case_asks c n j subject result x)

guard_told : {w : Around} (c : Context) (o : IsIn w c) (n j : ℕ) (g : Option Expression) → IfThere (ToldExpression w) g → Told w (guard_asks c n j g)
guard_told c o n j None absent = nothing_told
guard_told c o n j (Some e) (there s) = join (s.types c o) asked

abbrev body_has : Context → ℕ → ℕ → Expression → Option Typ → List Condition
body_has c n j e o = elim o [ None ↦ [] | Some t ↦ has_type c n j e t ]

body_told : {w : Around} (c : Context) (n j : ℕ) (e : Expression) (o : Option Typ) → Told w (body_has c n j e o)
body_told c n j e None = nothing_told
body_told c n j e (Some t) = asked

pub case_told : {w : Around} (x : Case) → ToldPattern w x.pattern → IfThere (ToldExpression w) x.guard → ToldExpression w x.body → ToldCase w x
case_told x s g z = record {
  asks = λ c n j subject result o.
      let inner : Context = with_names c x.pattern.names in
      let within = over_with c x.pattern.names o in
      told o (join (join (join (join (s.matches c [] o) asked) (guard_told inner within n (j + 1) x.guard g)) (z.types inner within)) (body_told c n (j + 2) x.body result));
}

later_told : {w : Around} (c : Context) (o : IsIn w c) (n j : ℕ) (subject result : Typ) {xs : List Case} → Each (ToldCase w) xs → Told w (later_cases c n j subject result xs)
later_told c o n j subject result no_one = nothing_told
later_told c o n j subject result (one_and s rest) = join (s.asks c n j subject (Some result) o) (later_told c o n (j + 3) subject result rest)

cases_told : {w : Around} (c : Context) (o : IsIn w c) (n : ℕ) (subject : Typ) {xs : List Case} → Each (ToldCase w) xs → Told w (cases_ask c n subject xs)
cases_told c o n subject no_one = nothing_told
cases_told c o n subject (one_and {x = x} s rest) = join (s.asks c n 0 subject None o) (later_told c o n 3 subject (type_at c x.body.node) rest)

pub ematch_told : {w : Around} (n : ℕ) (q : Place) (e : Expression) (xs : List Case) → ToldExpression w e → Each (ToldCase w) xs → ToldExpression w (match_expression n q e xs)
ematch_told n q e xs s each = usual n q other _ _ (λ c o. quiet _ (tt, tt) (join (s.types c o) (cases_told c o n (type_at c e.node) each)))

pub etry_told : {w : Around} (n : ℕ) (q : Place) (e : Expression) (xs : List Case) → ToldExpression w e → Each (ToldCase w) xs → ToldExpression w (try_expression n q e xs)
etry_told n q e xs s each = usual n q other _ _ (λ c o. quiet _ (tt, tt) (join (s.types c o) (later_told c o n 0 exn_type (type_at c e.node) each)))

pub efunction_told : {w : Around} (n : ℕ) (q : Place) (xs : List Case) → Each (ToldCase w) xs → ToldExpression w (function_expression n q xs)
efunction_told n q xs each = usual n q other _ _ (λ c o. quiet _ (tt, tt) (cases_told c o n (letter c n 0) each))

pub each_told : {w : Around} (c : Context) (o : IsIn w c) {ps : List Pattern} → Each (ToldPattern w) ps → Told w (matched_apart c ps)
each_told c o no_one = nothing_told
each_told c o (one_and s rest) = join (s.matches c [] o) (each_told c o rest)

pub efun_told : {w : Around} (n : ℕ) (q : Place) (ps : List Pattern) (e : Expression) → Each (ToldPattern w) ps → ToldExpression w e → ToldExpression w (fun_expression n q ps e)
efun_told n q ps e each s = usual n q other _ _ (λ c o. quiet _ (tt, tt) (join (each_told c o each) (s.types (with_names c (all_names ps)) (over_with c (all_names ps) o))))
