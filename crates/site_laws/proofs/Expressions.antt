-- Expressions and bindings make each demand once.
use Rattle.std.proofs.Common.{◌≡◌, inl, inr, ℕ, ◌+◌, ◌≤◌, Bool, true, false, List, [], ◌∷◌, ◌++◌, codes, Option, Some, None, refl, arith, if◌then◌else◌}
use Rattle.token_model.specs.Kinds.{Tok, Kind, lower, upper, float, false_word}
use Rattle.tree_model.specs.Trees.{Place}
use Rattle.type_model.specs.Types.{Typ}
use Rattle.type_model.specs.Schemes.{Scheme}
use Rattle.signature_model.specs.Declarations.{Name, Declaration, Label, type_of}
use Rattle.signature_model.specs.Components.{same_name}
use Rattle.signature_model.specs.Entries.{value_kind}
use Rattle.typing_model.specs.Demands.{Site, site, Demand, test, not_mutable, Condition, instance, sites_of}
use Rattle.typing_model.specs.Contexts.{Context, type_at, letter, ask, with_names}
use Rattle.typing_model.specs.Parts.{Written, Form, a_constructor, a_path, a_float, a_false, a_field, no_expression, other, Expression, TypeExpression, no_expression_at, place_of, last_of}
use Rattle.typing_model.specs.Names.{Built, found_by, referent_of, then_by, scheme_in, used_at}
use Rattle.typing_model.specs.BuiltIns.{unit_type, list_type}
use Rattle.typing_model.specs.Patterns.{built_by, behind_first}
use Rattle.typing_model.specs.Expressions.{expression, typed_all, has_type, is_of, value_asks, name_form, name_expression, constructor_expression, path_expression, literal_form, constant_expression, hole_expression, parenthesised, begun, first_type, each_has, list_expression, cons_expression, tuple_expression, applied_from, behind_constructor, behind_unbound, behind_argument, constructor_applied, application_asks, application, operator_applied, name_of, infix_expression, prefix_expression, under_sign, minus_asks, minus_expression, label_found, field_asks, field_expression, ask_mutable, set_expression, assert_asks, assert_expression, if_expression, sequence_expression, while_expression, loop_names, for_expression}
use Rattle.typing_laws.proofs.Steady.{IfThere, absent, there}
use Rattle.site_laws.proofs.Sites.{Within, Apart, Either, Lies, widen, join, then_within, both_in, apart_both, apart_from_both, apart_turned, At, Span, From, Others, span_in, from_in, own_apart, spans_apart, span_from_apart, span_from, from_from, span_wider, asked, silent, quiet, none_within, Every, none_of, one_of}
use Rattle.site_laws.proofs.Types.{ApartType}
use Rattle.site_laws.proofs.Patterns.{Nowhere, constant_apart, constructor_alone_apart, applied_apart, all_asked}

-- a path may be the label of a record's first field, whose demands are those of its node
abbrev pub MayBeField : (Site → Type 0) → Form → ℕ → Type 0
MayBeField P (a_constructor p) n = Unit {0}
MayBeField P (a_path p) n = Lies (At n) P
MayBeField P a_float n = Unit {0}
MayBeField P a_false n = Unit {0}
MayBeField P (a_field p l) n = Unit {0}
MayBeField P no_expression n = Unit {0}
MayBeField P other n = Unit {0}

-- an expression makes its demands in a set, each once
pub record ApartExpression (P : Site → Type 0) (e : Expression) : Type 0 where
  pub types : (c : Context) → Within P (e.typed c)
  pub negates : (c : Context) → Within P (e.negated c)
  pub forms : MayBeField P e.form e.node

form_in : {P Q : Site → Type 0} (f : Form) (n : ℕ) → Lies P Q → MayBeField P f n → MayBeField Q f n
form_in (a_constructor p) n f h = tt
form_in (a_path p) n f h = λ x i. f x (h x i)
form_in a_float n f h = tt
form_in a_false n f h = tt
form_in (a_field p l) n f h = tt
form_in no_expression n f h = tt
form_in other n f h = tt

pub expression_in_set : {P Q : Site → Type 0} {e : Expression} → Lies P Q → ApartExpression P e → ApartExpression Q e
expression_in_set {e = e} f s = record { types = λ c. widen f (s.types c); negates = λ c. widen f (s.negates c); forms = form_in e.form e.node f s.forms }

parts_apart : {A : Site → Type 0} {n : ℕ} → Lies A (Others n) → Apart A (At n)
parts_apart others = apart_turned (own_apart (λ x i. i) others)

pub no_expression_apart : {P : Site → Type 0} (n : ℕ) (q : Place) → ApartExpression P (no_expression_at n q)
no_expression_apart n q = record { types = λ c. none_within; negates = λ c. none_within; forms = tt }

-- an expression of the usual kind that is no path
pub usual : {P : Site → Type 0} (n : ℕ) (q : Place) (f : Form) (typed : Context → List Condition) (is_value : Context → Bool) → MayBeField P f n → ((c : Context) → Within P (typed c)) → ApartExpression P (expression n q f typed is_value)
usual n q f typed is_value forms h = record { types = h; negates = h; forms = forms }

-- what a row's parts ask is followed by its own demands, below some number
abbrev pub Row : ℕ → ℕ → (Site → Type 0) → Site → Type 0
Row n k A = Either A (Span n 0 k)

row_in : {n k : ℕ} (A : Site → Type 0) → Lies (Row n k A) (Either A (At n))
row_in A = both_in (λ x i. inl i) (λ x i. inr i.0)

-- one demand more
pub then_ask : {n k : ℕ} {A : Site → Type 0} {xs : List Condition} (j : ℕ) (q : Place) (d : Demand) → k ≤ j → Lies A (Others n) → Within (Row n k A) xs → Within (Row n (j + 1) A) (xs ++ ask n j q d)
then_ask j q d le others h = then_within h asked (apart_both (apart_turned (own_apart span_in others)) (spans_apart le)) (both_in (λ x i. inl i) (λ x i. inr (span_wider (omega arith) (omega (arith, le)) x i))) (λ x i. inr (span_wider (omega arith) (omega arith) x i))

-- one part more
pub then_part : {n k : ℕ} {A B : Site → Type 0} {xs ys : List Condition} → Lies B (Others n) → Apart A B → Within (Row n k A) xs → Within B ys → Within (Row n k (Either A B)) (xs ++ ys)
then_part others apart h g = then_within h g (apart_both apart (own_apart span_in others)) (both_in (λ x i. inl (inl i)) (λ x i. inr i)) (λ x i. inl (inr i))

-- the first part
pub first_part : {n : ℕ} {A : Site → Type 0} {xs : List Condition} → Within A xs → Within (Row n 0 A) xs
first_part h = widen (λ x i. inl i) h

pub row_done : {n k : ℕ} {A : Site → Type 0} {xs : List Condition} → Within (Row n k A) xs → Within (Either A (At n)) xs
row_done {A = A} h = widen (row_in A) h

pub all_typed : {P : Site → Type 0} (c : Context) {es : List Expression} → Every ApartExpression P es → Within P (typed_all c es)
all_typed c none_of = none_within
all_typed c (one_of s rest apart a b) = then_within (s.types c) (all_typed c rest) apart a b

-- names
abbrev use_behind : Typ → Option Scheme → List Condition
use_behind t o = elim o [ None ↦ [] | Some s ↦ instance s t ∷ [] ]

use_silent : (t : Typ) (o : Option Scheme) → sites_of (use_behind t o) ≡ []
use_silent t None = refl
use_silent t (Some s) = refl

pub value_apart : (c : Context) (n j : ℕ) (p : Written) (t : Typ) → Within (Span n j (j + 1)) (value_asks c n j p t)
value_apart c n j p t = by p.last refl
  where
    by : (o : Option Tok) → p.last ≡ o → Within (Span n j (j + 1)) (value_asks c n j p t)
    by None e = rw (e, value_asks) none_within
    by (Some x) e = rw (e, value_asks) (quiet (use_behind t (if c.kept (site n j) then then_by (referent_of (found_by c value_kind p x)) scheme_in else None)) (use_silent t (if c.kept (site n j) then then_by (referent_of (found_by c value_kind p x)) scheme_in else None)) asked)

name_form_apart : (n : ℕ) (p : Written) → MayBeField (At n) (name_form p) n
name_form_apart n p = by p.last refl
  where
    of_kind : (t : Tok) → p.last ≡ Some t → (s : Kind) → t.kind ≡ s → MayBeField (At n) (name_form p) n
    of_kind t e lower f = rw (e, f, name_form) (λ x i. i)
    of_kind t e _ f = rw (e, f, name_form) tt

    by : (o : Option Tok) → p.last ≡ o → MayBeField (At n) (name_form p) n
    by None e = rw (e, name_form) tt
    by (Some t) e = of_kind t e t.kind refl

pub name_apart : (n : ℕ) (q : Place) (p : Written) → ApartExpression (At n) (name_expression n q p)
name_apart n q p = usual n q (name_form p) _ _ (name_form_apart n p) (λ c. widen span_in (value_apart c n 0 p (type_at c n)))

pub econ_apart : (n : ℕ) (q : Place) (p : Written) → ApartExpression (At n) (constructor_expression n q p)
econ_apart n q p = usual n q (a_constructor p) _ _ tt (λ c. constructor_alone_apart c n p)

pub path_apart : (n : ℕ) (q : Place) (p : Written) → ApartExpression (At n) (path_expression n q p)
path_apart n q p = by p.last refl
  where
    of_kind : (t : Tok) → p.last ≡ Some t → (s : Kind) → t.kind ≡ s → ApartExpression (At n) (path_expression n q p)
    of_kind t e upper f = rw (e, f, path_expression) (econ_apart n q p)
    of_kind t e _ f = rw (e, f, path_expression) (name_apart n q p)

    by : (o : Option Tok) → p.last ≡ o → ApartExpression (At n) (path_expression n q p)
    by None e = rw (e, path_expression) (usual n q other _ _ tt (λ c. none_within))
    by (Some t) e = of_kind t e t.kind refl

literal_form_apart : (P : Site → Type 0) (n : ℕ) (t : Option Tok) → MayBeField P (literal_form t) n
literal_form_apart P n None = tt
literal_form_apart P n (Some t) = of_kind t.kind refl
  where
    of_kind : (s : Kind) → t.kind ≡ s → MayBeField P (literal_form (Some t)) n
    of_kind float f = rw (f, literal_form) tt
    of_kind false_word f = rw (f, literal_form) tt
    of_kind _ f = rw (f, literal_form) tt

pub econst_apart : (n : ℕ) (q : Place) (t : Option Tok) → ApartExpression (At n) (constant_expression n q t)
econst_apart n q t = record { types = constant_apart false n t; negates = constant_apart true n t; forms = literal_form_apart (At n) n t }

pub hole_apart : {P : Site → Type 0} (n : ℕ) (q : Place) → ApartExpression P (hole_expression n q)
hole_apart n q = usual n q other _ _ tt (λ c. none_within)

pub eparen_apart : {A B : Site → Type 0} (n : ℕ) (q : Place) (e : Expression) (t : Option TypeExpression) → ApartExpression A e → IfThere (ApartType B) t → Apart A B → Lies A (Others n) → Lies B (Others n) → ApartExpression (Either (Either A B) (At n)) (parenthesised n q e t)
eparen_apart n q e None s absent apart a b = usual n q other _ _ tt (λ c. quiet _ refl (widen (λ x i. inl (inl i)) (s.types c)))
eparen_apart n q e (Some t) s (there r) apart a b = usual n q other _ _ tt (λ c. quiet _ refl (row_done (then_ask 0 _ _ (omega arith) (both_in a b) (then_part b apart (first_part (s.types c)) (r.reads c)))))

pub ebegin_apart : {A : Site → Type 0} (n : ℕ) (q : Place) (e : Option Expression) → IfThere (ApartExpression A) e → ApartExpression A (begun n q e)
ebegin_apart n q None absent = usual n q other _ _ tt (λ c. silent _ refl)
ebegin_apart n q (Some e) (there s) = usual n q other _ _ tt (λ c. quiet _ refl (s.types c))

pub elist_apart : {A : Site → Type 0} (n : ℕ) (q : Place) (es : List Expression) → Every ApartExpression A es → Lies A (Others n) → ApartExpression (Either A (At n)) (list_expression n q es)
elist_apart n q es each others = usual n q other _ _ tt (λ c.
    quiet (is_of c n (list_type (first_type c n es))) refl (widen (both_in (λ x i. inl i) (λ x i. inr i.0)) (join (all_typed c each) (all_asked n 0 (each_has c (first_type c n es) (behind_first es))) (apart_turned (own_apart from_in others)))))

pub econs_apart : {A B : Site → Type 0} (n : ℕ) (q : Place) (e f : Expression) → ApartExpression A e → ApartExpression B f → Apart A B → Lies A (Others n) → Lies B (Others n) → ApartExpression (Either (Either A B) (At n)) (cons_expression n q e f)
econs_apart n q e f s z apart a b = usual n q other _ _ tt (λ c. quiet _ refl (row_done (then_ask 0 _ _ (omega arith) (both_in a b) (then_part b apart (first_part (s.types c)) (z.types c)))))

pub etuple_apart : {A : Site → Type 0} (n : ℕ) (q : Place) (es : List Expression) → Every ApartExpression A es → ApartExpression A (tuple_expression n q es)
etuple_apart n q es each = usual n q other _ _ tt (λ c. quiet _ refl (all_typed c each))

-- a head and its arguments
applied_from_apart : {A : Site → Type 0} (c : Context) (n j i : ℕ) (q : Place) (h : Typ) {es : List Expression} → Every ApartExpression A es → Lies A (Others n) → Within (Either (From n j) A) (applied_from c n j i q h es)
applied_from_apart c n j i q h none_of others = silent _ refl
applied_from_apart {A} c n j i q h (one_of {A = B} {B = C} {x = e} s rest apart a b) others =
    let first = then_within asked (s.types c) (own_apart span_in (λ x k. others x (a x k))) (first_in B) (λ x k. inl k) in
    let two = then_within first asked (apart_both (apart_turned (own_apart span_in (λ x k. others x (a x k)))) (spans_apart (omega arith))) (both_in (λ x k. inl k) (λ x k. inr (span_wider (omega arith) (omega arith) x k))) (second_in B) in
    then_within two (applied_from_apart c n (j + 2) (i + 2) q (letter c n (i + 1)) rest (λ x k. others x (b x k)))
    (apart_both (apart_from_both (apart_turned (own_apart from_in (λ x k. others x (a x k)))) apart) (apart_from_both (span_from_apart (omega arith)) (own_apart span_in (λ x k. others x (b x k)))))
    (both_in (λ x k. inr (a x k)) (λ x k. inl (span_from (omega arith) x k)))
    (both_in (λ x k. inl (from_from (omega arith) x k)) (λ x k. inr (b x k)))
  where
    first_in : (D : Site → Type 0) → Lies (Span n j (j + 1)) (Either D (Span n j (j + 1)))
    first_in D x k = inr k

    second_in : (D : Site → Type 0) → Lies (Span n (j + 1) (j + 1 + 1)) (Either D (Span n j (j + 2)))
    second_in D x k = inr (span_wider (omega arith) (omega arith) x k)

-- what stands behind a part: demands from a number on, and other parts
abbrev pub Tail : ℕ → ℕ → (Site → Type 0) → Site → Type 0
Tail n k A = Either (From n k) A

-- a part, its own demands below a number, and a tail from that number on
pub then_tail : {n k : ℕ} {A B : Site → Type 0} {xs ys : List Condition} → Lies A (Others n) → Lies B (Others n) → Apart A B → Within (Row n k A) xs → Within (Tail n k B) ys → Within (Either (Either A B) (At n)) (xs ++ ys)
then_tail {n} {k} {A} {B} a b apart h g = then_within h g
    (apart_both (apart_from_both (apart_turned (own_apart from_in a)) apart) (apart_from_both (span_from_apart (omega arith)) (own_apart span_in b)))
    (both_in (λ x i. inl (inl i)) (λ x i. inr i.0)) (both_in (λ x i. inr i.0) (λ x i. inl (inr i)))

-- a head is a constructor or another expression
unbound_apart : {A : Site → Type 0} (c : Context) (n : ℕ) (head : Expression) {es : List Expression} → Every ApartExpression A es → Within A (behind_unbound c n head es)
unbound_apart c n head none_of = silent _ refl
unbound_apart c n head (one_of s rest apart a b) = all_typed c (one_of s rest apart a b)

behind_constructor_apart : {A : Site → Type 0} (c : Context) (n : ℕ) (head : Expression) {es : List Expression} → Every ApartExpression A es → Lies A (Others n) → Within (Tail n 3 A) (behind_constructor c n head es)
behind_constructor_apart c n head none_of others = silent _ refl
behind_constructor_apart c n head (one_of s rest apart a b) others = applied_from_apart c n 3 0 head.at (type_at c head.node) (one_of s rest apart a b) others

argument_behind : {A : Site → Type 0} (c : Context) (n : ℕ) (head : Expression) {es : List Expression} (o : Option Built) → Every ApartExpression A es → Lies A (Others n) → Within (Tail n 3 A) (behind_argument c n head es o)
argument_behind c n head None each others = widen (λ x i. inr i) (unbound_apart c n head each)
argument_behind c n head (Some b) each others = behind_constructor_apart c n head each others

constructor_applied_apart : {H A : Site → Type 0} (c : Context) (n : ℕ) (p : Written) (head : Expression) {es : List Expression} → ApartExpression H head → Every ApartExpression A es → Lies A (Others n) → Within (Either (Either H A) (At n)) (constructor_applied c n p head es)
constructor_applied_apart c n p head h none_of others = widen (λ x i. inl (inl i)) (h.types c)
constructor_applied_apart {H} {A} c n p head h (one_of {x = e} {xs = es} s rest apart a b) others =
    widen (both_in (both_in (λ x i. inl (inr (a x i))) (λ x i. inl (inr (b x i)))) (λ x i. inr i))
    (then_tail (λ x k. others x (a x k)) (λ x k. others x (b x k)) apart (applied_apart c n p head.node (head.node ∷ []) e.at (type_at c e.node) (s.types c) (λ x k. others x (a x k)))
    (argument_behind c n head (then_by p.last (built_by c n p)) rest (λ x k. others x (b x k))))

-- another head and its arguments
plainly_applied : {H A : Site → Type 0} (c : Context) (n : ℕ) (head : Expression) {es : List Expression} → ApartExpression H head → Every ApartExpression A es → Apart H A → Lies H (Others n) → Lies A (Others n) →
    Within (Either (Either H A) (At n)) (head.typed c ++ applied_from c n 0 0 head.at (type_at c head.node) es)
plainly_applied c n head h each apart a b = then_tail a b apart (first_part (h.types c)) (applied_from_apart c n 0 0 head.at (type_at c head.node) each b)

application_apart : {H A : Site → Type 0} (c : Context) (n : ℕ) (head : Expression) {es : List Expression} (f : Form) → ApartExpression H head → Every ApartExpression A es → Apart H A → Lies H (Others n) → Lies A (Others n) →
    Within (Either (Either H A) (At n)) (application_asks c n head es f)
application_apart c n head (a_constructor p) h each apart a b = constructor_applied_apart c n p head h each b
application_apart c n head (a_path p) h each apart a b = plainly_applied c n head h each apart a b
application_apart c n head a_float h each apart a b = plainly_applied c n head h each apart a b
application_apart c n head a_false h each apart a b = plainly_applied c n head h each apart a b
application_apart c n head (a_field p l) h each apart a b = plainly_applied c n head h each apart a b
application_apart c n head no_expression h each apart a b = plainly_applied c n head h each apart a b
application_apart c n head other h each apart a b = plainly_applied c n head h each apart a b

pub eapp_apart : {H A : Site → Type 0} (n : ℕ) (q : Place) (head : Expression) (es : List Expression) → ApartExpression H head → Every ApartExpression A es → Apart H A → Lies H (Others n) → Lies A (Others n) → ApartExpression (Either (Either H A) (At n)) (application n q head es)
eapp_apart n q head es h each apart a b = usual n q other _ _ tt (λ c. application_apart c n head head.form h each apart a b)

operator_apart : {A : Site → Type 0} (c : Context) (n : ℕ) (t : Option Tok) (x : Name) {es : List Expression} → Every ApartExpression A es → Lies A (Others n) → Within (Either A (At n)) (operator_applied c n t x es)
operator_apart c n None x each others = widen (λ y i. inl i) (all_typed c each)
operator_apart c n (Some t) x each others =
    then_within (value_apart c n 0 (record { qualifiers = []; last = Some (record t { name = x }) }) (letter c n 0)) (applied_from_apart c n 1 1 (place_of t) (letter c n 0) each others)
    (apart_from_both (span_from_apart (omega arith)) (own_apart span_in others)) (λ y i. inr i.0) (both_in (λ y i. inr i.0) (λ y i. inl i))

-- one expression alone, and two
pub one_expression : {A : Site → Type 0} {e : Expression} → ApartExpression A e → Every ApartExpression A (e ∷ [])
one_expression {A} s = one_of {B = Nowhere} s none_of (λ x i j. j) (λ x i. i) (λ x i. absurd (i))

two_expressions : {A B : Site → Type 0} {e f : Expression} → ApartExpression A e → ApartExpression B f → Apart A B → Every ApartExpression (Either A B) (e ∷ f ∷ [])
two_expressions s z apart = one_of s (one_expression z) apart (λ x i. inl i) (λ x i. inr i)

pub infix_apart : {A B : Site → Type 0} (n : ℕ) (q : Place) (t : Option Tok) (e f : Expression) → ApartExpression A e → ApartExpression B f → Apart A B → Lies A (Others n) → Lies B (Others n) → ApartExpression (Either (Either A B) (At n)) (infix_expression n q t e f)
infix_apart n q t e f s z apart a b = usual n q other _ _ tt (λ c. operator_apart c n t (name_of t) (two_expressions s z apart) (both_in a b))

pub prefix_apart : {A : Site → Type 0} (n : ℕ) (q : Place) (t : Option Tok) (e : Expression) → ApartExpression A e → Lies A (Others n) → ApartExpression (Either A (At n)) (prefix_expression n q t e)
prefix_apart n q t e s others = usual n q other _ _ tt (λ c. operator_apart c n t (name_of t) (one_expression s) others)

under_sign_apart : {A : Site → Type 0} (t : Option Tok) (e : Expression) → ApartExpression A e → ApartExpression A (under_sign t e)
under_sign_apart {A} t e s = by (same_name (name_of t) (codes "-"))
  where
    by : (b : Bool) → ApartExpression A (if b then record e { typed = e.negated } else e)
    by true = record { types = s.negates; negates = s.negates; forms = s.forms }
    by false = s

minus_apart : {A : Site → Type 0} (c : Context) (n : ℕ) (t : Option Tok) (e : Expression) (f : Form) → ApartExpression A e → Lies A (Others n) → Within (Either A (At n)) (minus_asks c n t e f)
minus_apart c n t e a_float s others = quiet _ refl (widen (λ x i. inl i) (s.negates c))
minus_apart c n t e (a_constructor p) s others = operator_apart c n t (codes "~" ++ name_of t) (one_expression (under_sign_apart t e s)) others
minus_apart c n t e (a_path p) s others = operator_apart c n t (codes "~" ++ name_of t) (one_expression (under_sign_apart t e s)) others
minus_apart c n t e a_false s others = operator_apart c n t (codes "~" ++ name_of t) (one_expression (under_sign_apart t e s)) others
minus_apart c n t e (a_field p l) s others = operator_apart c n t (codes "~" ++ name_of t) (one_expression (under_sign_apart t e s)) others
minus_apart c n t e no_expression s others = operator_apart c n t (codes "~" ++ name_of t) (one_expression (under_sign_apart t e s)) others
minus_apart c n t e other s others = operator_apart c n t (codes "~" ++ name_of t) (one_expression (under_sign_apart t e s)) others

pub eneg_apart : {A : Site → Type 0} (n : ℕ) (q : Place) (t : Option Tok) (e : Expression) → ApartExpression A e → Lies A (Others n) → ApartExpression (Either A (At n)) (minus_expression n q t e)
eneg_apart n q t e s others = usual n q other _ _ tt (λ c. minus_apart c n t e e.form s others)

-- a field
abbrev field_behind : Context → ℕ → Expression → Option (Declaration × Label) → List Condition
field_behind c n e o = elim o [ None ↦ [] | Some (d, l) ↦ has_type c n 1 e (used_at c n (type_of d)) ++ is_of c n (used_at c n l.body) ]

field_behind_apart : (c : Context) (n : ℕ) (e : Expression) (o : Option (Declaration × Label)) → Within (Span n 1 2) (field_behind c n e o)
field_behind_apart c n e None = none_within
field_behind_apart c n e (Some (d, l)) = quiet _ refl asked

field_asked : {A : Site → Type 0} (c : Context) (n : ℕ) (e : Expression) (p : Written) → ApartExpression A e → Lies A (Others n) → Within (Either A (At n)) (field_asks c n e p)
field_asked {A} c n e p s others = by p.last refl
  where
    by : (o : Option Tok) → p.last ≡ o → Within (Either A (At n)) (field_asks c n e p)
    by None g = rw (g, field_asks) (widen (λ x i. inl i) (s.types c))
    by (Some t) g = rw (g, field_asks) (then_within (then_ask 0 _ _ (omega arith) others (first_part (s.types c))) (field_behind_apart c n e (if c.kept (site n 0) then label_found c p else None))
        (apart_both (apart_turned (own_apart span_in others)) (spans_apart (omega arith))) (row_in A) (λ x i. inr i.0))

pub field_apart : {A : Site → Type 0} (n : ℕ) (q : Place) (e : Expression) (p : Written) → ApartExpression A e → Lies A (Others n) → ApartExpression (Either A (At n)) (field_expression n q e p)
field_apart n q e p s others = record { types = λ c. field_asked c n e p s others; negates = λ c. field_asked c n e p s others; forms = tt }

abbrev mutable_behind : ℕ → Written → Option Label → List Condition
mutable_behind n p o = elim o [ None ↦ [] | Some l ↦ elim p.last [ None ↦ [] | Some t ↦ ask n 0 (place_of t) (test (not_mutable t.name) l.is_mutable) ] ]

mutable_apart : (c : Context) (n : ℕ) (f : Form) → Within (Span n 0 1) (ask_mutable c n f)
mutable_apart c n (a_field p label) = by (label c) p.last
  where
    by : (o : Option Label) (l : Option Tok) → Within (Span n 0 1) (elim o [ None ↦ [] | Some l' ↦ elim l [ None ↦ [] | Some t ↦ ask n 0 (place_of t) (test (not_mutable t.name) l'.is_mutable) ] ])
    by None l = none_within
    by (Some x) None = none_within
    by (Some x) (Some t) = asked
mutable_apart c n (a_constructor p) = none_within
mutable_apart c n (a_path p) = none_within
mutable_apart c n a_float = none_within
mutable_apart c n a_false = none_within
mutable_apart c n no_expression = none_within
mutable_apart c n other = none_within

-- own demands below a number, made together
pub then_own : {n k : ℕ} {A : Site → Type 0} {xs ys : List Condition} (j m : ℕ) → k ≤ j → j ≤ m → Lies A (Others n) → Within (Row n k A) xs → Within (Span n j m) ys → Within (Row n m A) (xs ++ ys)
then_own j m le lf others h g = then_within h g (apart_both (apart_turned (own_apart span_in others)) (spans_apart le)) (both_in (λ x i. inl i) (λ x i. inr (span_wider (omega arith) (omega (arith, le, lf)) x i))) (λ x i. inr (span_wider (omega arith) (omega arith) x i))

pub eset_apart : {A B : Site → Type 0} (n : ℕ) (q : Place) (e f : Expression) → ApartExpression A e → ApartExpression B f → Apart A B → Lies A (Others n) → Lies B (Others n) → ApartExpression (Either (Either A B) (At n)) (set_expression n q e f)
eset_apart n q e f s z apart a b = usual n q other _ _ tt (λ c.
    quiet _ refl (row_done (then_ask 1 _ _ (omega arith) (both_in a b) (then_part b apart (then_own 0 1 (omega arith) (omega arith) a (first_part (s.types c)) (mutable_apart c n e.form)) (z.types c)))))

pub eassert_apart : {A : Site → Type 0} (n : ℕ) (q : Place) (e : Expression) → ApartExpression A e → Lies A (Others n) → ApartExpression (Either A (At n)) (assert_expression n q e)
eassert_apart {A} n q e s others = usual n q other _ _ tt (λ c. by c e.form)
  where
    bool : (c : Context) (t : Typ) → Within (Either A (At n)) (e.typed c ++ has_type c n 0 e t ++ is_of c n unit_type)
    bool c t = quiet _ refl (row_done (then_ask 0 _ _ (omega arith) others (first_part (s.types c))))

    by : (c : Context) (f : Form) → Within (Either A (At n)) (assert_asks c n e f)
    by c a_false = widen (λ x i. inl i) (s.types c)
    by c (a_constructor p) = bool c _
    by c (a_path p) = bool c _
    by c a_float = bool c _
    by c (a_field p l) = bool c _
    by c no_expression = bool c _
    by c other = bool c _

pub eif_apart : {A B C : Site → Type 0} (n : ℕ) (q : Place) (e f : Expression) (g : Option Expression) → ApartExpression A e → ApartExpression B f → IfThere (ApartExpression C) g → Apart A B → Apart A C → Apart B C → Lies A (Others n) → Lies B (Others n) → Lies C (Others n) →
    ApartExpression (Either (Either (Either A B) C) (At n)) (if_expression n q e f g)
eif_apart n q e f None s z absent ab ac bc a b d = usual n q other _ _ tt (λ c. quiet _ refl (widen (both_in (λ x i. inl (inl i)) (λ x i. inr i))
    (row_done (then_ask 1 _ _ (omega arith) (both_in a b) (then_part b ab (then_ask 0 _ _ (omega arith) a (first_part (s.types c))) (z.types c))))))
eif_apart n q e f (Some g) s z (there w) ab ac bc a b d = usual n q other _ _ tt (λ c. quiet _ refl
    (row_done (then_ask 1 _ _ (omega arith) (both_in (both_in a b) d) (then_part d (apart_both ac bc) (then_part b ab (then_ask 0 _ _ (omega arith) a (first_part (s.types c))) (z.types c)) (w.types c)))))

last_silent : (c : Context) (n : ℕ) (o : Option Expression) → sites_of (elim o [ None ↦ [] | Some e ↦ is_of c n (type_at c e.node) ]) ≡ []
last_silent c n None = refl
last_silent c n (Some e) = refl

pub eseq_apart : {A : Site → Type 0} (n : ℕ) (q : Place) (es : List Expression) → Every ApartExpression A es → ApartExpression A (sequence_expression n q es)
eseq_apart n q es each = usual n q other _ _ tt (λ c. quiet _ (last_silent c n (last_of es)) (all_typed c each))

pub ewhile_apart : {A B : Site → Type 0} (n : ℕ) (q : Place) (e f : Expression) → ApartExpression A e → ApartExpression B f → Apart A B → Lies A (Others n) → Lies B (Others n) → ApartExpression (Either (Either A B) (At n)) (while_expression n q e f)
ewhile_apart n q e f s z apart a b = usual n q other _ _ tt (λ c. quiet _ refl (row_done (then_part b apart (then_ask 0 _ _ (omega arith) a (first_part (s.types c))) (z.types c))))

pub efor_apart : {A B C : Site → Type 0} (n : ℕ) (q : Place) (x : Option Tok) (e f g : Expression) → ApartExpression A e → ApartExpression B f → ApartExpression C g → Apart A B → Apart A C → Apart B C → Lies A (Others n) → Lies B (Others n) → Lies C (Others n) →
    ApartExpression (Either (Either (Either A B) C) (At n)) (for_expression n q x e f g)
efor_apart n q x e f g s z w ab ac bc a b d = usual n q other _ _ tt (λ c. quiet _ refl
    (row_done (then_part d (apart_both ac bc) (then_ask 1 _ _ (omega arith) (both_in a b) (then_part b ab (then_ask 0 _ _ (omega arith) a (first_part (s.types c))) (z.types c))) (w.types (with_names c (loop_names x))))))
