-- What expressions and bindings ask is no closing.
use Rattle.std.proofs.Common.{◌≡◌, ℕ, ◌+◌, Bool, true, false, List, [], ◌∷◌, ◌++◌, codes, map, Option, Some, None, refl, if◌then◌else◌}
use Rattle.token_model.specs.Kinds.{Tok, Kind, upper}
use Rattle.tree_model.specs.Trees.{Place}
use Rattle.type_model.specs.Types.{Typ}
use Rattle.type_model.specs.Schemes.{Scheme}
use Rattle.signature_model.specs.Declarations.{Name, Declaration, Label, type_of}
use Rattle.signature_model.specs.Components.{same_name}
use Rattle.signature_model.specs.Entries.{value_kind}
use Rattle.typing_model.specs.Demands.{equal, test, not_mutable, Condition, instance, demand, site}
use Rattle.typing_model.specs.Contexts.{Context, type_at, letter, is_kept, ask, with_names}
use Rattle.typing_model.specs.Parts.{Written, Form, a_constructor, a_path, a_float, a_false, a_field, no_expression, other, Expression, Pattern, TypeExpression, Binding, Case, Field, place_of, last_of}
use Rattle.typing_model.specs.Names.{then_by, Built, used_at, found_by, referent_of, scheme_in}
use Rattle.typing_model.specs.Records.{field_type, ask_complete, name_in, absent_label, labels_in}
use Rattle.typing_model.specs.Patterns.{built_by, argument_has, kept_record, all_names}
use Rattle.typing_model.specs.Bindings.{matched_apart, read_annotation, has_annotation, right_side, names_of_group, bound_in_turn, patterns_first, right_sides, bindings_ask}
use Rattle.typing_model.specs.Expressions.{expression, typed_all, has_type, is_of, value_asks, path_expression, parenthesised, begun, applied_from, behind_constructor, behind_unbound, behind_argument, constructor_applied, application_asks, operator_applied, name_of, under_sign, minus_asks, label_found, field_asks, ask_mutable, pun_asks, field_value_asks, is_some, fields_ask, labels_of, names_of_labels, is_record, record_asks, update_asks, first_field, before_labels, loose_value, record_expression, assert_asks, if_expression, sequence_expression, guard_asks, case_asks, later_cases, cases_ask, name_expression, constructor_expression}
use Rattle.typing_laws.proofs.Steady.{Each, no_one, one_and, each_append, IfThere, absent, there}
use Rattle.typing_laws.proofs.Quiet.{Quiet, silence, q_demand, q_same, q_instance, q_treated, also, if_quiet, NoEnd, QuietType, QuietExpression, QuietPattern, QuietBinding, QuietCase, QuietField, constructor_alone_quiet, applied_quiet, argument_quiet, record_quiet, once_quiet}

pub record QuietTyped (e : Expression) : Type 0 where
  pub types : (c : Context) → Quiet (e.typed c)

pub typed_too : (es : List Expression) → Each QuietExpression es → Each QuietTyped es
typed_too [] no_one = no_one
typed_too (e ∷ es) (one_and s each) = one_and (record { types = s.types }) (typed_too es each)

pub usual : (n : ℕ) (q : Place) (f : Form) (typed : Context → List Condition) (is_value : Context → Bool) → ((c : Context) → Quiet (typed c)) → QuietExpression (expression n q f typed is_value)
usual n q f typed is_value h = record { types = h; negates = h }

pub all_typed : (c : Context) (es : List Expression) → Each QuietTyped es → Quiet (typed_all c es)
all_typed c [] no_one = silence
all_typed c (e ∷ es) (one_and s each) = also (s.types c) (all_typed c es each)

use_quiet : (t : Typ) (o : Option Scheme) → Quiet (elim o [ None ↦ [] | Some s ↦ instance s t ∷ [] ])
use_quiet t None = silence
use_quiet t (Some s) = q_instance silence

pub value_quiet : (c : Context) (n j : ℕ) (p : Written) (t : Typ) → Quiet (value_asks c n j p t)
value_quiet c n j p t = by p.last refl
  where
    by : (o : Option Tok) → p.last ≡ o → Quiet (value_asks c n j p t)
    by None e = rw (e, value_asks) silence
    by (Some x) e = rw (e, value_asks) (q_demand refl (use_quiet t (if is_kept c n j then then_by (referent_of (found_by c value_kind p x)) scheme_in else None)))

pub name_quiet : (n : ℕ) (q : Place) (p : Written) → QuietExpression (name_expression n q p)
name_quiet n q p = usual n q _ _ _ (λ c. value_quiet c n 0 p (type_at c n))

pub econ_quiet : (n : ℕ) (q : Place) (p : Written) → QuietExpression (constructor_expression n q p)
econ_quiet n q p = usual n q _ _ _ (λ c. constructor_alone_quiet c n p)

pub path_quiet : (n : ℕ) (q : Place) (p : Written) → QuietExpression (path_expression n q p)
path_quiet n q p = by p.last refl
  where
    of_kind : (t : Tok) → p.last ≡ Some t → (s : Kind) → t.kind ≡ s → QuietExpression (path_expression n q p)
    of_kind t e upper f = rw (e, f, path_expression) (econ_quiet n q p)
    of_kind t e _ f = rw (e, f, path_expression) (name_quiet n q p)

    by : (o : Option Tok) → p.last ≡ o → QuietExpression (path_expression n q p)
    by None e = rw (e, path_expression) (record { types = λ c. silence; negates = λ c. silence })
    by (Some t) e = of_kind t e t.kind refl

pub paren_quiet : (n : ℕ) (q : Place) (e : Expression) (t : Option TypeExpression) → QuietExpression e → IfThere QuietType t → QuietExpression (parenthesised n q e t)
paren_quiet n q e None s absent = usual n q _ _ _ (λ c. also (s.types c) (q_same silence))
paren_quiet n q e (Some t) s (there r) = usual n q _ _ _ (λ c. also (also (also (s.types c) (r.reads c)) (q_demand refl silence)) (q_same silence))

pub begun_quiet : (n : ℕ) (q : Place) (e : Option Expression) → IfThere QuietExpression e → QuietExpression (begun n q e)
begun_quiet n q None absent = usual n q _ _ _ (λ c. q_same silence)
begun_quiet n q (Some e) (there s) = usual n q _ _ _ (λ c. also (s.types c) (q_same silence))

pub each_quiet : (c : Context) (t : Typ) (es : List Expression) → Each NoEnd (map (λ e. (e.at, equal (type_at c e.node) t)) es)
each_quiet c t [] = no_one
each_quiet c t (e ∷ es) = one_and (record { no = refl }) (each_quiet c t es)

pub applied_from_quiet : (c : Context) (n j i : ℕ) (q : Place) (h : Typ) (es : List Expression) → Each QuietTyped es → Quiet (applied_from c n j i q h es)
applied_from_quiet c n j i q h [] no_one = q_same silence
applied_from_quiet c n j i q h (e ∷ es) (one_and s each) = q_demand refl (also (also (s.types c) (q_demand refl silence)) (applied_from_quiet c n (j + 2) (i + 2) q (letter c n (i + 1)) es each))

unbound_quiet : (c : Context) (n : ℕ) (head : Expression) (es : List Expression) → Each QuietTyped es → Quiet (behind_unbound c n head es)
unbound_quiet c n head [] no_one = q_same silence
unbound_quiet c n head (e ∷ es) each = all_typed c (e ∷ es) each

behind_quiet : (c : Context) (n : ℕ) (head : Expression) (es : List Expression) → Each QuietTyped es → Quiet (behind_constructor c n head es)
behind_quiet c n head [] no_one = q_same silence
behind_quiet c n head (e ∷ es) each = applied_from_quiet c n 3 0 head.at (type_at c head.node) (e ∷ es) each

argument_behind : (c : Context) (n : ℕ) (head : Expression) (es : List Expression) (o : Option Built) → Each QuietTyped es → Quiet (behind_argument c n head es o)
argument_behind c n head es None each = unbound_quiet c n head es each
argument_behind c n head es (Some b) each = behind_quiet c n head es each

constructor_applied_quiet : (c : Context) (n : ℕ) (p : Written) (head : Expression) (es : List Expression) → QuietTyped head → Each QuietTyped es → Quiet (constructor_applied c n p head es)
constructor_applied_quiet c n p head [] h no_one = h.types c
constructor_applied_quiet c n p head (e ∷ es) h (one_and s each) =
    also (applied_quiet c n p head.node (head.node ∷ []) (e.typed c) (argument_has n 2 e.at (type_at c e.node)) (s.types c) (argument_quiet n 2 e.at (type_at c e.node))) (argument_behind c n head es (then_by p.last (built_by c n p)) each)

application_quiet : (c : Context) (n : ℕ) (head : Expression) (es : List Expression) (f : Form) → QuietTyped head → Each QuietTyped es → Quiet (application_asks c n head es f)
application_quiet c n head es (a_constructor p) h each = constructor_applied_quiet c n p head es h each
application_quiet c n head es (a_path p) h each = also (h.types c) (applied_from_quiet c n 0 0 head.at (type_at c head.node) es each)
application_quiet c n head es a_float h each = also (h.types c) (applied_from_quiet c n 0 0 head.at (type_at c head.node) es each)
application_quiet c n head es a_false h each = also (h.types c) (applied_from_quiet c n 0 0 head.at (type_at c head.node) es each)
application_quiet c n head es (a_field p l) h each = also (h.types c) (applied_from_quiet c n 0 0 head.at (type_at c head.node) es each)
application_quiet c n head es no_expression h each = also (h.types c) (applied_from_quiet c n 0 0 head.at (type_at c head.node) es each)
application_quiet c n head es other h each = also (h.types c) (applied_from_quiet c n 0 0 head.at (type_at c head.node) es each)

pub eapp_quiet : (n : ℕ) (q : Place) (head : Expression) (es : List Expression) (is_value : Context → Bool) → QuietExpression head → Each QuietExpression es → QuietExpression (expression n q other (λ c. application_asks c n head es head.form) is_value)
eapp_quiet n q head es is_value s each = usual n q _ _ _ (λ c. application_quiet c n head es head.form (record { types = s.types }) (typed_too es each))

pub operator_quiet : (c : Context) (n : ℕ) (t : Option Tok) (x : Name) (es : List Expression) → Each QuietTyped es → Quiet (operator_applied c n t x es)
operator_quiet c n None x es each = all_typed c es each
operator_quiet c n (Some t) x es each =
    also (value_quiet c n 0 (record { qualifiers = []; last = Some (record t { name = x }) }) (letter c n 0)) (applied_from_quiet c n 1 1 (place_of t) (letter c n 0) es each)

sign_quiet : (t : Option Tok) (e : Expression) → QuietExpression e → QuietTyped (under_sign t e)
sign_quiet t e s = by (same_name (name_of t) (codes "-"))
  where
    by : (b : Bool) → QuietTyped (if b then record e { typed = e.negated } else e)
    by true = record { types = s.negates }
    by false = record { types = s.types }

pub minus_quiet : (c : Context) (n : ℕ) (t : Option Tok) (e : Expression) (f : Form) → QuietExpression e → Quiet (minus_asks c n t e f)
minus_quiet c n t e a_float s = also (s.negates c) (q_same silence)
minus_quiet c n t e (a_constructor p) s = operator_quiet c n t (codes "~" ++ name_of t) (under_sign t e ∷ []) (one_and (sign_quiet t e s) no_one)
minus_quiet c n t e (a_path p) s = operator_quiet c n t (codes "~" ++ name_of t) (under_sign t e ∷ []) (one_and (sign_quiet t e s) no_one)
minus_quiet c n t e a_false s = operator_quiet c n t (codes "~" ++ name_of t) (under_sign t e ∷ []) (one_and (sign_quiet t e s) no_one)
minus_quiet c n t e (a_field p l) s = operator_quiet c n t (codes "~" ++ name_of t) (under_sign t e ∷ []) (one_and (sign_quiet t e s) no_one)
minus_quiet c n t e no_expression s = operator_quiet c n t (codes "~" ++ name_of t) (under_sign t e ∷ []) (one_and (sign_quiet t e s) no_one)
minus_quiet c n t e other s = operator_quiet c n t (codes "~" ++ name_of t) (under_sign t e ∷ []) (one_and (sign_quiet t e s) no_one)

pub field_quiet : (c : Context) (n : ℕ) (e : Expression) (p : Written) → QuietExpression e → Quiet (field_asks c n e p)
field_quiet c n e p s = by p.last refl
  where
    found : (o : Option (Declaration × Label)) → Quiet (elim o [ None ↦ [] | Some (d, l) ↦ has_type c n 1 e (used_at c n (type_of d)) ++ is_of c n (used_at c n l.body) ])
    found None = silence
    found (Some (d, l)) = q_demand refl (q_same silence)

    by : (o : Option Tok) → p.last ≡ o → Quiet (field_asks c n e p)
    by None g = rw (g, field_asks) (s.types c)
    by (Some t) g = rw (g, field_asks) (also (also (s.types c) (q_demand refl silence)) (found (if is_kept c n 0 then label_found c p else None)))

pub mutable_quiet : (c : Context) (n : ℕ) (f : Form) → Quiet (ask_mutable c n f)
mutable_quiet c n (a_field p label) = found (label c)
  where
    at_last : (l : Label) (o : Option Tok) → Quiet (elim o [ None ↦ [] | Some t ↦ ask n 0 (place_of t) (test (not_mutable t.name) l.is_mutable) ])
    at_last l None = silence
    at_last l (Some t) = q_demand refl silence

    found : (o : Option Label) → Quiet (elim o [ None ↦ [] | Some l ↦ elim p.last [ None ↦ [] | Some t ↦ ask n 0 (place_of t) (test (not_mutable t.name) l.is_mutable) ] ])
    found None = silence
    found (Some l) = at_last l p.last
mutable_quiet c n (a_constructor p) = silence
mutable_quiet c n (a_path p) = silence
mutable_quiet c n a_float = silence
mutable_quiet c n a_false = silence
mutable_quiet c n no_expression = silence
mutable_quiet c n other = silence

-- records
equal_if : (n k : ℕ) (q : Place) (t : Typ) (o : Option Typ) → Quiet (elim o [ None ↦ [] | Some u ↦ demand (site n k) q (equal t u) ∷ [] ])
equal_if n k q t None = silence
equal_if n k q t (Some u) = q_demand refl silence

pun_quiet : (c : Context) (f : Field) (t : Option Typ) → Quiet (pun_asks c f t)
pun_quiet c f t = by f.label.last refl
  where
    by : (o : Option Tok) → f.label.last ≡ o → Quiet (pun_asks c f t)
    by None e = rw (e, pun_asks) silence
    by (Some x) e = rw (e, pun_asks) (also (value_quiet c f.node 1 (record { qualifiers = []; last = Some x }) (letter c f.node 0)) (equal_if f.node 2 (place_of x) (letter c f.node 0) t))

field_value_quiet : (c : Context) (is_found : Bool) (f : Field) (names : List Name) (t : Option Typ) → QuietField f → Quiet (field_value_asks c is_found f names t)
field_value_quiet c is_found f names t s = by f.value refl s.value
  where
    by : (o : Option Expression) → f.value ≡ o → IfThere QuietExpression o → Quiet (field_value_asks c is_found f names t)
    by None e absent = rw (e, field_value_asks) (q_treated (also (if_quiet is_found (once_quiet f.node 0 names f.label) silence) (pun_quiet c f t)))
    by (Some v) e (there z) = rw (e, field_value_asks) (q_treated (also (if_quiet is_found (once_quiet f.node 0 names f.label) silence) (also (z.types c) (equal_if f.node 2 v.at (type_at c v.node) t))))

fields_quiet : (c : Context) (n : ℕ) (found : Option Declaration) (fs : List Field) (names : List Name) → Each QuietField fs → Quiet (fields_ask c n found fs names)
fields_quiet c n found [] names no_one = silence
fields_quiet c n found (f ∷ fs) names (one_and s each) = also (field_value_quiet c (is_some found) f names (field_type c n f.node found f.label) s) (fields_quiet c n found fs (names ++ name_in f.label) each)

is_record_quiet : (c : Context) (n : ℕ) (o : Option Declaration) → Quiet (is_record c n o)
is_record_quiet c n None = silence
is_record_quiet c n (Some d) = q_same silence

complete_quiet : (n k : ℕ) (q : Place) (found : Option Declaration) (seen : List Name) → Quiet (ask_complete n k q found seen)
complete_quiet n k q found seen = by (then_by found (λ d. absent_label (labels_in d.shape) seen)) refl
  where
    by : (o : Option Name) → then_by found (λ d. absent_label (labels_in d.shape) seen) ≡ o → Quiet (ask_complete n k q found seen)
    by None e = rw (e, ask_complete) silence
    by (Some x) e = rw (e, ask_complete) (q_demand refl silence)

record_asks_quiet : (c : Context) (n : ℕ) (q : Place) (xs us : List Condition) (fs : List Field) → Each QuietField fs → Quiet xs → Quiet us → Quiet (record_asks c n q xs us fs)
record_asks_quiet c n q xs us fs each h g =
    let found : Option Declaration = kept_record c n 1 (labels_of fs) in
    also (also (also (also (also h (record_quiet c n 1 (labels_of fs))) g) (fields_quiet c n found fs [] each)) (complete_quiet n 3 q found (names_of_labels fs))) (is_record_quiet c n found)

pub update_quiet : (c : Context) (n : ℕ) (e : Expression) (fs : List Field) → QuietExpression e → Each QuietField fs → Quiet (update_asks c n e fs)
update_quiet c n e fs s each =
    let found : Option Declaration = kept_record c n 1 (labels_of fs) in
    also (also (also (also (s.types c) (record_quiet c n 1 (labels_of fs))) (has found)) (fields_quiet c n found fs [] each)) (is_record_quiet c n found)
  where
    has : (o : Option Declaration) → Quiet (elim o [ None ↦ [] | Some d ↦ has_type c n 2 e (used_at c n (type_of d)) ])
    has None = silence
    has (Some d) = q_demand refl silence

first_quiet : (f : Form) (n : ℕ) (value : Option Expression) → IfThere QuietExpression value → Each QuietField (first_field f n value)
first_quiet (a_path p) n value s = one_and (record { value = s }) no_one
first_quiet (a_constructor p) n value s = no_one
first_quiet a_float n value s = no_one
first_quiet a_false n value s = no_one
first_quiet (a_field p l) n value s = no_one
first_quiet no_expression n value s = no_one
first_quiet other n value s = no_one

before_quiet : (c : Context) (n : ℕ) (e : Expression) (f : Form) → QuietExpression e → Quiet (before_labels c n e f)
before_quiet c n e (a_path p) s = silence
before_quiet c n e no_expression s = s.types c
before_quiet c n e (a_constructor p) s = q_demand refl (s.types c)
before_quiet c n e a_float s = q_demand refl (s.types c)
before_quiet c n e a_false s = q_demand refl (s.types c)
before_quiet c n e (a_field p l) s = q_demand refl (s.types c)
before_quiet c n e other s = q_demand refl (s.types c)

list_quiet : (o : Option Expression) → IfThere QuietExpression o → Each QuietTyped (elim o [ None ↦ [] | Some e ↦ e ∷ [] ])
list_quiet None absent = no_one
list_quiet (Some e) (there s) = one_and (record { types = s.types }) no_one

loose_quiet : (c : Context) (f : Form) (value : Option Expression) → IfThere QuietExpression value → Quiet (loose_value c f value)
loose_quiet c (a_path p) value s = silence
loose_quiet c (a_constructor p) value s = all_typed c _ (list_quiet value s)
loose_quiet c a_float value s = all_typed c _ (list_quiet value s)
loose_quiet c a_false value s = all_typed c _ (list_quiet value s)
loose_quiet c (a_field p l) value s = all_typed c _ (list_quiet value s)
loose_quiet c no_expression value s = all_typed c _ (list_quiet value s)
loose_quiet c other value s = all_typed c _ (list_quiet value s)

pub erecord_quiet : (n : ℕ) (q : Place) (e : Expression) (value : Option Expression) (fs : List Field) → QuietExpression e → IfThere QuietExpression value → Each QuietField fs → QuietExpression (record_expression n q e value fs)
erecord_quiet n q e value fs s v each = usual n q _ _ _ (λ c. record_asks_quiet c n q (before_labels c n e e.form) (loose_value c e.form value) (first_field e.form e.node value ++ fs)
    (each_append (first_quiet e.form e.node value v) each) (before_quiet c n e e.form s) (loose_quiet c e.form value v))

pub assert_quiet : (c : Context) (n : ℕ) (e : Expression) (f : Form) → QuietExpression e → Quiet (assert_asks c n e f)
assert_quiet c n e a_false s = s.types c
assert_quiet c n e (a_constructor p) s = also (also (s.types c) (q_demand refl silence)) (q_same silence)
assert_quiet c n e (a_path p) s = also (also (s.types c) (q_demand refl silence)) (q_same silence)
assert_quiet c n e a_float s = also (also (s.types c) (q_demand refl silence)) (q_same silence)
assert_quiet c n e (a_field p l) s = also (also (s.types c) (q_demand refl silence)) (q_same silence)
assert_quiet c n e no_expression s = also (also (s.types c) (q_demand refl silence)) (q_same silence)
assert_quiet c n e other s = also (also (s.types c) (q_demand refl silence)) (q_same silence)

pub if_expression_quiet : (n : ℕ) (q : Place) (e f : Expression) (g : Option Expression) → QuietExpression e → QuietExpression f → IfThere QuietExpression g → QuietExpression (if_expression n q e f g)
if_expression_quiet n q e f None s z absent = usual n q _ _ _ (λ c. also (also (also (also (s.types c) (q_demand refl silence)) (z.types c)) (q_demand refl silence)) (q_same silence))
if_expression_quiet n q e f (Some g) s z (there w) = usual n q _ _ _ (λ c. also (also (also (also (also (s.types c) (q_demand refl silence)) (z.types c)) (w.types c)) (q_demand refl silence)) (q_same silence))

pub sequence_quiet : (n : ℕ) (q : Place) (es : List Expression) → Each QuietExpression es → QuietExpression (sequence_expression n q es)
sequence_quiet n q es each = usual n q _ _ _ (λ c. also (all_typed c es (typed_too es each)) (last c (last_of es)))
  where
    last : (c : Context) (o : Option Expression) → Quiet (elim o [ None ↦ [] | Some e ↦ is_of c n (type_at c e.node) ])
    last c None = silence
    last c (Some e) = q_same silence

-- cases
guard_quiet : (c : Context) (n j : ℕ) (g : Option Expression) → IfThere QuietExpression g → Quiet (guard_asks c n j g)
guard_quiet c n j None absent = silence
guard_quiet c n j (Some e) (there s) = also (s.types c) (q_demand refl silence)

case_quiet : (c : Context) (n j : ℕ) (subject : Typ) (result : Option Typ) (x : Case) → QuietCase x → Quiet (case_asks c n j subject result x)
case_quiet c n j subject result x s = let p = s.pattern in let b = s.body in
    q_treated (also (also (also (also (p.matches c []) (q_demand refl silence)) (guard_quiet (with_names c x.pattern.names) n (j + 1) x.guard s.guard)) (b.types (with_names c x.pattern.names))) (equal_if n (j + 2) x.body.at (type_at c x.body.node) result))

pub later_quiet : (c : Context) (n j : ℕ) (subject result : Typ) (xs : List Case) → Each QuietCase xs → Quiet (later_cases c n j subject result xs)
later_quiet c n j subject result [] no_one = silence
later_quiet c n j subject result (x ∷ xs) (one_and s each) = also (case_quiet c n j subject (Some result) x s) (later_quiet c n (j + 3) subject result xs each)

pub cases_quiet : (c : Context) (n : ℕ) (subject : Typ) (xs : List Case) → Each QuietCase xs → Quiet (cases_ask c n subject xs)
cases_quiet c n subject [] no_one = silence
cases_quiet c n subject (x ∷ xs) (one_and s each) = also (case_quiet c n 0 subject None x s) (later_quiet c n 3 subject (type_at c x.body.node) xs each)

-- bindings
pub apart_quiet : (c : Context) (ps : List Pattern) → Each QuietPattern ps → Quiet (matched_apart c ps)
apart_quiet c [] no_one = silence
apart_quiet c (p ∷ ps) (one_and s each) = also (s.matches c []) (apart_quiet c ps each)

annotation_quiet : (c : Context) (t : Option TypeExpression) → IfThere QuietType t → Quiet (read_annotation c t)
annotation_quiet c None absent = silence
annotation_quiet c (Some t) (there s) = s.reads c

has_annotation_quiet : (c : Context) (b : Binding) (t : Option TypeExpression) → Quiet (has_annotation c b t)
has_annotation_quiet c b None = silence
has_annotation_quiet c b (Some t) = q_demand refl silence

right_quiet : (c : Context) (b : Binding) → QuietBinding b → Quiet (right_side c b)
right_quiet c b s = let e = s.body in
    also (also (also (apart_quiet c b.parameters s.parameters) (annotation_quiet c b.annotation s.annotation)) (e.types (with_names c (all_names b.parameters)))) (has_annotation_quiet c b b.annotation)

in_turn_quiet : (c : Context) (seen : List Name) (bs : List Binding) → Each QuietBinding bs → Quiet (bound_in_turn c seen bs)
in_turn_quiet c seen [] no_one = silence
in_turn_quiet c seen (b ∷ bs) (one_and s each) = let p = s.pattern in
    q_treated (also (also (also (right_quiet c b s) (p.matches c seen)) (q_demand refl silence)) (in_turn_quiet c (seen ++ b.pattern.mentions) bs each))

patterns_quiet : (c : Context) (seen : List Name) (bs : List Binding) → Each QuietBinding bs → Quiet (patterns_first c seen bs)
patterns_quiet c seen [] no_one = silence
patterns_quiet c seen (b ∷ bs) (one_and s each) = let p = s.pattern in q_treated (also (p.matches c seen) (patterns_quiet c (seen ++ b.pattern.mentions) bs each))

right_sides_quiet : (c inner : Context) (bs : List Binding) → Each QuietBinding bs → Quiet (right_sides c inner bs)
right_sides_quiet c inner [] no_one = silence
right_sides_quiet c inner (b ∷ bs) (one_and s each) = also (also (right_quiet inner b s) (q_demand refl silence)) (right_sides_quiet c inner bs each)

pub bindings_quiet : (c : Context) (is_rec : Bool) (bs : List Binding) → Each QuietBinding bs → Quiet (bindings_ask c is_rec bs)
bindings_quiet c true bs each = also (patterns_quiet c [] bs each) (right_sides_quiet c (with_names c (names_of_group bs)) bs each)
bindings_quiet c false bs each = in_turn_quiet c [] bs each
