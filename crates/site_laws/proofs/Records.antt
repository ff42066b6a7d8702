-- Records, cases and bindings make each demand once.
use Rattle.std.proofs.Common.{◌≡◌, inl, inr, ℕ, ◌+◌, Bool, false, List, [], ◌∷◌, ◌++◌, Option, Some, None, refl, arith}
use Rattle.token_model.specs.Kinds.{Tok}
use Rattle.tree_model.specs.Trees.{Place}
use Rattle.type_model.specs.Types.{Typ}
use Rattle.signature_model.specs.Declarations.{Name, Declaration, type_of}
use Rattle.typing_model.specs.Demands.{Site, equal, test, no_label, Condition, sites_of}
use Rattle.typing_model.specs.Contexts.{Context, type_at, letter, ask, with_names}
use Rattle.typing_model.specs.Parts.{Written, Form, a_constructor, a_path, a_float, a_false, a_field, no_expression, other, Expression, Pattern, Case, Field, place_of}
use Rattle.typing_model.specs.Names.{then_by, used_at}
use Rattle.typing_model.specs.Records.{name_in, field_type, ask_complete, absent_label, labels_in}
use Rattle.typing_model.specs.BuiltIns.{exn_type}
use Rattle.typing_model.specs.Patterns.{kept_record, all_names}
use Rattle.typing_model.specs.Bindings.{matched_apart}
use Rattle.typing_model.specs.Expressions.{has_type, pun_asks, field_value_asks, is_some, fields_ask, labels_of, names_of_labels, is_record, record_asks, first_field, before_labels, loose_value, typed_all, record_expression, update_expression, guard_asks, case_asks, later_cases, cases_ask, match_expression, try_expression, function_expression, fun_expression}
use Rattle.typing_laws.proofs.Steady.{IfThere, absent, there}
use Rattle.site_laws.proofs.Sites.{Within, Apart, Either, Lies, widen, join, then_within, both_in, apart_both, apart_from_both, apart_turned, apart_within, At, Span, From, Others, span_in, from_in, own_apart, spans_apart, span_from_apart, span_from, from_from, span_wider, asked, told, quiet, none_within, Every, none_of, one_of}
use Rattle.site_laws.proofs.Patterns.{ApartPattern, Nowhere, record_apart, once_apart}
use Rattle.site_laws.proofs.Expressions.{MayBeField, ApartExpression, all_typed, value_apart, one_expression, usual, then_own, then_part, then_tail, first_part, row_done}

-- a field makes its demands in a set, each once
pub record ApartField (P : Site → Type 0) (f : Field) : Type 0 where
  pub asks : (c : Context) (is_found : Bool) (names : List Name) (t : Option Typ) → Within P (field_value_asks c is_found f names t)

abbrev pun_has : Context → Field → Tok → Option Typ → List Condition
pun_has c f x o = elim o [ None ↦ [] | Some t ↦ ask f.node 2 (place_of x) (equal (letter c f.node 0) t) ]

pun_apart : (c : Context) (f : Field) (t : Option Typ) → Within (Span f.node 1 3) (pun_asks c f t)
pun_apart c f t = by f.label.last refl
  where
    has : (x : Tok) (t : Option Typ) → Within (Span f.node 2 3) (pun_has c f x t)
    has x None = none_within
    has x (Some t) = asked

    by : (o : Option Tok) → f.label.last ≡ o → Within (Span f.node 1 3) (pun_asks c f t)
    by None e = rw (e, pun_asks) none_within
    by (Some x) e = rw (e, pun_asks) (then_within (value_apart c f.node 1 (record { qualifiers = []; last = Some x }) (letter c f.node 0)) (has x t) (spans_apart (omega arith)) (span_wider (omega arith) (omega arith)) (span_wider (omega arith) (omega arith)))

-- that the value of a field has a type, if there is one
abbrev value_has : Context → Field → Expression → Option Typ → List Condition
value_has c f e o = elim o [ None ↦ [] | Some t ↦ has_type c f.node 2 e t ]

-- its own demands are in one set, and those of its value in another
pub field_apart : {A B P : Site → Type 0} (f : Field) → Lies (At f.node) A → IfThere (ApartExpression B) f.value → Apart A B → Lies A P → Lies B P → ApartField P f
field_apart {A} {B} {P} f own s apart a b = record { asks = λ c is_found names t. by c is_found names t f.value refl s }
  where
    has : (c : Context) (e : Expression) (t : Option Typ) → Within (Span f.node 2 3) (value_has c f e t)
    has c e None = none_within
    has c e (Some t) = asked

    span : {i j : ℕ} → Apart (Span f.node i j) B
    span = apart_within (λ x k. own x k.0) (λ x k. k) apart

    here : {i j : ℕ} → Lies (Span f.node i j) P
    here x k = a x (own x k.0)

    by : (c : Context) (is_found : Bool) (names : List Name) (t : Option Typ) (o : Option Expression) → f.value ≡ o → IfThere (ApartExpression B) o → Within P (field_value_asks c is_found f names t)
    by c is_found names t None e absent = rw (e, field_value_asks) (told (then_within (once_apart f.node is_found names f.label) (pun_apart c f t) (spans_apart (omega arith)) here here))
    by c is_found names t (Some v) e (there z) = rw (e, field_value_asks) (told (
        then_within (once_apart f.node is_found names f.label) (join (z.types c) (has c v t) (apart_turned span)) (apart_from_both span (spans_apart (omega arith))) here (both_in b here)))

fields_apart : {A : Site → Type 0} (c : Context) (n : ℕ) (found : Option Declaration) {fs : List Field} (names : List Name) → Every ApartField A fs → Within A (fields_ask c n found fs names)
fields_apart c n found names none_of = none_within
fields_apart c n found names (one_of {x = f} s rest apart a b) =
    then_within (s.asks c (is_some found) names (field_type c n f.node found f.label)) (fields_apart c n found (names ++ name_in f.label) rest) apart a b

record_silent : (c : Context) (n : ℕ) (o : Option Declaration) → sites_of (is_record c n o) ≡ []
record_silent c n None = refl
record_silent c n (Some d) = refl

complete_apart : (n j : ℕ) (q : Place) (o : Option Declaration) (names : List Name) → Within (Span n j (j + 1)) (ask_complete n j q o names)
complete_apart n j q o names = by (then_by o (λ d. absent_label (labels_in d.shape) names)) refl
  where
    by : (l : Option Name) → then_by o (λ d. absent_label (labels_in d.shape) names) ≡ l → Within (Span n j (j + 1)) (ask_complete n j q o names)
    by None e = rw (e, ask_complete) none_within
    by (Some x) e = rw (e, ask_complete) asked

-- the fields of a record behind what a first part asks that is none
record_asked : {A F : Site → Type 0} (c : Context) (n : ℕ) (q : Place) {fs : List Field} {xs ys : List Condition} (B : Site → Type 0) → Within (Either A (Span n 0 1)) xs → Within B ys → Every ApartField F fs → Apart A B → Apart A F → Apart B F → Lies A (Others n) → Lies B (Others n) → Lies F (Others n) →
    Within (Either (Either (Either A B) F) (At n)) (record_asks c n q xs ys fs)
record_asked c n q {fs} B before loose each ab af bf a b f =
    let found : Option Declaration = kept_record c n 1 (labels_of fs) in
    quiet (is_record c n found) (record_silent c n found)
    (then_within (then_part f (apart_both af bf) (then_part b ab (then_within before (record_apart c n 1 (labels_of fs)) (apart_both (apart_turned (own_apart span_in a)) (spans_apart (omega arith)))
    (both_in (λ x i. inl i) (λ x i. inr (span_wider {d = 2} (omega arith) (omega arith) x i))) (λ x i. inr (span_wider (omega arith) (omega arith) x i))) loose) (fields_apart c n found [] each))
    (complete_apart n 3 q found (names_of_labels fs)) (apart_both (apart_turned (own_apart span_in (both_in (both_in a b) f))) (spans_apart (omega arith))) (both_in (λ x i. inl i) (λ x i. inr i.0)) (λ x i. inr i.0))

abbrev as_list : Option Expression → List Expression
as_list o = elim o [ None ↦ [] | Some e ↦ e ∷ [] ]

list_typed : {A : Site → Type 0} (c : Context) (o : Option Expression) → IfThere (ApartExpression A) o → Within A (typed_all c (as_list o))
list_typed c None absent = none_within
list_typed c (Some e) (there s) = all_typed c (one_expression s)

pub erecord_apart : {A B F : Site → Type 0} (n : ℕ) (q : Place) (e : Expression) (value : Option Expression) (fs : List Field) → ApartExpression A e → IfThere (ApartExpression B) value → Every ApartField F fs → Apart A B → Apart A F → Apart B F → Lies A (Others n) → Lies B (Others n) → Lies F (Others n) →
    ApartExpression (Either (Either (Either A B) F) (At n)) (record_expression n q e value fs)
erecord_apart {A} {B} {F} n q e value fs s v each ab af bf a b f = usual n q other _ _ tt (λ c. by c e.form s.forms)
  where
    -- that a first part is no label
    wrong : (c : Context) → Within (Either A (Span n 0 1)) (ask n 0 e.at (test no_label false) ++ e.typed c)
    wrong c = then_within asked (s.types c) (own_apart span_in a) (λ x i. inr i) (λ x i. inl i)

    loose : (c : Context) → Within (Either (Either (Either A B) F) (At n)) (record_asks c n q (ask n 0 e.at (test no_label false) ++ e.typed c) (typed_all c (as_list value)) fs)
    loose c = record_asked c n q B (wrong c) (list_typed c value v) each ab af bf a b f

    -- a first part that is a label, whose node has the demands of its field
    labelled : (c : Context) (p : Written) → Lies (At e.node) A → Within (Either (Either (Either A B) F) (At n)) (record_asks c n q [] [] (record { node = e.node; label = p; value = value } ∷ fs))
    labelled c p own = widen (both_in (both_in (both_in (λ x i. absurd (i)) (λ x i. absurd (i))) (λ x i. inl i)) (λ x i. inr i))
        (record_asked {A = Nowhere} {F = Either (Either A B) F} c n q Nowhere none_within none_within
        (one_of (field_apart {A = A} {B = B} {P = Either A B} (record { node = e.node; label = p; value = value }) own v ab (λ x i. inl i) (λ x i. inr i)) each (apart_both af bf) (λ x i. inl i) (λ x i. inr i))
        (λ x i j. i) (λ x i j. i) (λ x i j. i) (λ x i j. i) (λ x i j. i) (both_in (both_in a b) f))

    by : (c : Context) (g : Form) → MayBeField A g e.node → Within (Either (Either (Either A B) F) (At n)) (record_asks c n q (before_labels c n e g) (loose_value c g value) (first_field g e.node value ++ fs))
    by c (a_path p) h = labelled c p h
    by c no_expression h = record_asked c n q B (widen (λ x i. inl i) (s.types c)) (list_typed c value v) each ab af bf a b f
    by c (a_constructor p) h = loose c
    by c a_float h = loose c
    by c a_false h = loose c
    by c (a_field p l) h = loose c
    by c other h = loose c

abbrev has_record : Context → ℕ → Expression → Option Declaration → List Condition
has_record c n e o = elim o [ None ↦ [] | Some d ↦ has_type c n 2 e (used_at c n (type_of d)) ]

has_record_apart : (c : Context) (n : ℕ) (e : Expression) (o : Option Declaration) → Within (Span n 2 3) (has_record c n e o)
has_record_apart c n e None = none_within
has_record_apart c n e (Some d) = asked

pub eupdate_apart : {A F : Site → Type 0} (n : ℕ) (q : Place) (e : Expression) (fs : List Field) → ApartExpression A e → Every ApartField F fs → Apart A F → Lies A (Others n) → Lies F (Others n) → ApartExpression (Either (Either A F) (At n)) (update_expression n q e fs)
eupdate_apart n q e fs s each af a f = usual n q other _ _ tt (λ c.
    let found : Option Declaration = kept_record c n 1 (labels_of fs) in
    quiet (is_record c n found) (record_silent c n found)
    (row_done (then_part f af (then_own 2 3 (omega arith) (omega arith) a (then_own 1 2 (omega arith) (omega arith) a (first_part (s.types c)) (record_apart c n 1 (labels_of fs))) (has_record_apart c n e found)) (fields_apart c n found [] each))))

-- a case makes its demands in a set, each once, but for those of its match, of which it has three
pub record ApartCase (P : Site → Type 0) (x : Case) : Type 0 where
  pub asks : (c : Context) (n j : ℕ) (subject : Typ) (result : Option Typ) → Lies P (Others n) → Within (Either (Span n j (j + 3)) P) (case_asks c n j subject result x)

guard_apart : {A : Site → Type 0} (c : Context) (n j : ℕ) (g : Option Expression) → IfThere (ApartExpression A) g → Lies A (Others n) → Within (Either A (Span n j (j + 1))) (guard_asks c n j g)
guard_apart c n j None absent others = none_within
guard_apart c n j (Some e) (there s) others = join (s.types c) asked (apart_turned (own_apart span_in others))

abbrev body_has : Context → ℕ → ℕ → Expression → Option Typ → List Condition
body_has c n j e o = elim o [ None ↦ [] | Some t ↦ has_type c n j e t ]

body_apart : (c : Context) (n j : ℕ) (e : Expression) (o : Option Typ) → Within (Span n j (j + 1)) (body_has c n j e o)
body_apart c n j e None = none_within
body_apart c n j e (Some t) = asked

pub case_apart : {A B C P : Site → Type 0} (x : Case) → ApartPattern A x.pattern → IfThere (ApartExpression B) x.guard → ApartExpression C x.body → Apart A B → Apart A C → Apart B C → Lies A P → Lies B P → Lies C P → ApartCase P x
case_apart {A} {B} {C} {P} x s g z ab ac bc a b d = record {
  asks = λ c n j subject result others.
      let inner : Context = with_names c x.pattern.names in
      let one = then_within (s.matches c []) asked (apart_turned (own_apart span_in (λ y i. others y (a y i)))) (λ y i. inl i) (first n j) in
      let two = then_within one (guard_apart inner n (j + 1) x.guard g (λ y i. others y (b y i))) (apart_both (apart_from_both ab (apart_turned (own_apart span_in (λ y i. others y (a y i))))) (apart_from_both (own_apart span_in (λ y i. others y (b y i))) (spans_apart (omega arith)))) (more n j) (guards n j) in
      let three = then_within two (z.types inner) (apart_both (apart_both ac bc) (own_apart span_in (λ y i. others y (d y i)))) (bodies n j) (λ y i. inl (inr i)) in
      told (then_within three (body_apart c n (j + 2) x.body result) (apart_both (apart_turned (own_apart span_in (λ y i. others y (parts y i)))) (spans_apart (omega arith))) (both_in (λ y i. inr (parts y i)) (λ y i. inl (span_wider (omega arith) (omega arith) y i))) (λ y i. inl (span_wider (omega arith) (omega arith) y i)));
}
  where
    first : (n j : ℕ) → Lies (Span n j (j + 1)) (Either A (Span n j (j + 1)))
    first n j y i = inr i

    more : (n j : ℕ) → Lies (Either A (Span n j (j + 1))) (Either (Either A B) (Span n j (j + 2)))
    more n j y (inl i) = inl (inl i)
    more n j y (inr i) = inr (span_wider (omega arith) (omega arith) y i)

    guards : (n j : ℕ) → Lies (Either B (Span n (j + 1) (j + 1 + 1))) (Either (Either A B) (Span n j (j + 2)))
    guards n j y (inl i) = inl (inr i)
    guards n j y (inr i) = inr (span_wider (omega arith) (omega arith) y i)

    bodies : (n j : ℕ) → Lies (Either (Either A B) (Span n j (j + 2))) (Either (Either (Either A B) C) (Span n j (j + 2)))
    bodies n j y (inl i) = inl (inl i)
    bodies n j y (inr i) = inr i

    parts : Lies (Either (Either A B) C) P
    parts = both_in (both_in a b) d

later_apart : {A : Site → Type 0} (c : Context) (n j : ℕ) (subject result : Typ) {xs : List Case} → Every ApartCase A xs → Lies A (Others n) → Within (Either (From n j) A) (later_cases c n j subject result xs)
later_apart c n j subject result none_of others = none_within
later_apart c n j subject result (one_of s rest apart a b) others =
    then_within (s.asks c n j subject (Some result) (λ x i. others x (a x i))) (later_apart c n (j + 3) subject result rest (λ x i. others x (b x i)))
    (apart_both (apart_from_both (span_from_apart (omega arith)) (own_apart span_in (λ x i. others x (b x i)))) (apart_from_both (apart_turned (own_apart from_in (λ x i. others x (a x i)))) apart))
    (both_in (λ x i. inl (span_from (omega arith) x i)) (λ x i. inr (a x i))) (both_in (λ x i. inl (from_from (omega arith) x i)) (λ x i. inr (b x i)))

cases_apart : {A : Site → Type 0} (c : Context) (n : ℕ) (subject : Typ) {xs : List Case} → Every ApartCase A xs → Lies A (Others n) → Within (Either (From n 0) A) (cases_ask c n subject xs)
cases_apart c n subject none_of others = none_within
cases_apart c n subject (one_of {x = x} s rest apart a b) others =
    then_within (s.asks c n 0 subject None (λ y i. others y (a y i))) (later_apart c n 3 subject (type_at c x.body.node) rest (λ y i. others y (b y i)))
    (apart_both (apart_from_both (span_from_apart (omega arith)) (own_apart span_in (λ y i. others y (b y i)))) (apart_from_both (apart_turned (own_apart from_in (λ y i. others y (a y i)))) apart))
    (both_in (λ y i. inl (span_from (omega arith) y i)) (λ y i. inr (a y i))) (both_in (λ y i. inl (from_from (omega arith) y i)) (λ y i. inr (b y i)))

pub ematch_apart : {A B : Site → Type 0} (n : ℕ) (q : Place) (e : Expression) (xs : List Case) → ApartExpression A e → Every ApartCase B xs → Apart A B → Lies A (Others n) → Lies B (Others n) → ApartExpression (Either (Either A B) (At n)) (match_expression n q e xs)
ematch_apart n q e xs s each apart a b = usual n q other _ _ tt (λ c. quiet _ refl (then_tail a b apart (first_part (s.types c)) (cases_apart c n (type_at c e.node) each b)))

pub etry_apart : {A B : Site → Type 0} (n : ℕ) (q : Place) (e : Expression) (xs : List Case) → ApartExpression A e → Every ApartCase B xs → Apart A B → Lies A (Others n) → Lies B (Others n) → ApartExpression (Either (Either A B) (At n)) (try_expression n q e xs)
etry_apart n q e xs s each apart a b = usual n q other _ _ tt (λ c. quiet _ refl (then_tail a b apart (first_part (s.types c)) (later_apart c n 0 exn_type (type_at c e.node) each b)))

pub efunction_apart : {A : Site → Type 0} (n : ℕ) (q : Place) (xs : List Case) → Every ApartCase A xs → Lies A (Others n) → ApartExpression (Either A (At n)) (function_expression n q xs)
efunction_apart n q xs each others = usual n q other _ _ tt (λ c. quiet _ refl (widen (both_in (λ x i. inr i.0) (λ x i. inl i)) (cases_apart c n (letter c n 0) each others)))

pub each_apart : {A : Site → Type 0} (c : Context) {ps : List Pattern} → Every ApartPattern A ps → Within A (matched_apart c ps)
each_apart c none_of = none_within
each_apart c (one_of s rest apart a b) = then_within (s.matches c []) (each_apart c rest) apart a b

pub efun_apart : {A B : Site → Type 0} (n : ℕ) (q : Place) (ps : List Pattern) (e : Expression) → Every ApartPattern A ps → ApartExpression B e → Apart A B → ApartExpression (Either A B) (fun_expression n q ps e)
efun_apart n q ps e each s apart = usual n q other _ _ tt (λ c. quiet _ refl (join (each_apart c each) (s.types (with_names c (all_names ps))) apart))
