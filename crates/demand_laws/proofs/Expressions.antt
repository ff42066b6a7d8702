-- Expressions make the same demands.
use Rattle.std.proofs.Common.{◌≡◌, ◌∙◌, ℕ, ◌+◌, ◌==◌, Bool, true, false, not, ◌&&◌, List, [], ◌∷◌, ◌++◌, codes, length, Option, Some, None, option_map, refl, sym, ap, if◌then◌else◌}
use Rattle.token_model.specs.Kinds.{Tok, Kind, lower, upper, float, false_word}
use Rattle.tree_model.specs.Trees.{Place}
use Rattle.type_model.specs.Types.{Typ}
use Rattle.type_model.specs.Schemes.{Scheme}
use Rattle.signature_model.specs.Declarations.{Name, Declaration, Label, type_of}
use Rattle.signature_model.specs.Components.{same_name}
use Rattle.signature_model.specs.Entries.{Entry, Referent, a_label, value_kind, label_kind}
use Rattle.signature_model.specs.Lookups.{FoundAmong}
use Rattle.typing_model.specs.Demands.{value_word, label_word}
use Rattle.typing_model.specs.Demands.{site, equal, test, not_mutable, Condition, instance}
use Rattle.typing_model.specs.Contexts.{Context, type_at, letter, ask}
use Rattle.typing_model.specs.Parts.{Written, Form, a_constructor, a_path, a_float, a_false, a_field, no_expression, other, Expression, Pattern, TypeExpression, Binding, Case, Field, no_expression_at, place_of, last_of}
use Rattle.typing_model.specs.Names.{names_of, Built, found_by, referent_of, then_by, scheme_in, label_in, used_at}
use Rattle.typing_model.specs.Records.{ask_once, name_in, field_type, is_among, absent_label, ask_complete, declaration_found, labels_in}
use Rattle.typing_model.specs.BuiltIns.{exn_type}
use Rattle.typing_model.specs.Patterns.{built_by, ask_all, behind_first, kept_record, all_names}
use Rattle.typing_model.specs.Bindings.{generalises}
use Rattle.typing_model.specs.Expressions.{expression, typed_all, all_values, has_type, is_of, value_asks, name_form, name_expression, constructor_expression, path_expression, literal_form, constant_expression, hole_expression, parenthesised, begun, first_type, each_has, list_expression, cons_expression, tuple_expression, applied_from, behind_constructor, behind_unbound, behind_argument, constructor_applied, application_asks, is_built_value, application, operator_applied, name_of, infix_expression, prefix_expression, under_sign, minus_asks, minus_expression, label_found, field_asks, field_expression, ask_mutable, set_expression, pun_asks, field_value_asks, is_some, fields_ask, labels_of, names_of_labels, is_record, record_asks, update_asks, first_field, before_labels, loose_value, all_field_values, none_mutable, is_constant_record, record_expression, update_expression, assert_asks, assert_expression, if_expression, sequence_expression, while_expression, loop_names, for_expression, guard_asks, case_asks, later_cases, cases_ask, cases_are_values, match_expression, try_expression, function_expression, fun_expression, all_generalise, let_expression}
use Rattle.typing_laws.proofs.Steady.{Each, no_one, one_and, each_append, IfThere, absent, there}
use Rattle.demand_laws.proofs.Alike.{Same, alone, one, at_treated, behind, at_demand, at_bound, along, BothThere, neither, both, Both, nones, somes, Lists, no_pair, pair_and, LabelAlike, DeclarationAlike, ReferentAlike, one_thing, two_values, two_exceptions, two_constructors, two_labels, two_types, ComesAlike, at_entry, at_hole, at_nothing, Two, left, right, more, lookup_alike}
use Rattle.demand_laws.proofs.Types.{AlikeType, both_if}
use Rattle.demand_laws.proofs.Patterns.{AlikePattern, constant_alike, BuiltAlike, not_built, both_built, built_alike, constructor_alone_alike, applied_alike, ask_record_alike, declaration_alike, kept_record_alike, labels_alike, field_types}
use Rattle.demand_laws.proofs.Bindings.{IsMutableAlike, IsFormAlike, AlikeExpression, AlikeBinding, apart_alike, bindings_alike, generalises_alike, in_let}

pub record AlikeCase (a : Case) : Type 0 where
  pub pattern : AlikePattern a.pattern
  pub guard : IfThere AlikeExpression a.guard
  pub body : AlikeExpression a.body

pub record AlikeField (f : Field) : Type 0 where
  pub value : IfThere AlikeExpression f.value

-- an expression makes the same demands; what else is alike of it isn't told
pub record TypedAlike (e : Expression) : Type 0 where
  pub types : (c : Two) → Same (e.typed (left c)) (e.typed (right c))

typed_too : (es : List Expression) → Each AlikeExpression es → Each TypedAlike es
typed_too [] no_one = no_one
typed_too (e ∷ es) (one_and s each) = one_and (record { types = s.types }) (typed_too es each)

pub no_expression_alike : (n : ℕ) (q : Place) → AlikeExpression (no_expression_at n q)
no_expression_alike n q = record { types = λ c. alone (λ k. refl); negates = λ c. alone (λ k. refl); values = λ c. refl; forms = tt }

-- an expression of the usual kind
usual : (n : ℕ) (q : Place) (f : Form) (typed : Context → List Condition) (is_value : Context → Bool) → IsFormAlike f → ((c : Two) → Same (typed (left c)) (typed (right c))) →
    ((c : Two) → is_value (left c) ≡ is_value (right c)) → AlikeExpression (expression n q f typed is_value)
usual n q f typed is_value forms h values = record { types = h; negates = h; values = values; forms = forms }

pub all_typed : (c : Two) (es : List Expression) → Each TypedAlike es → Same (typed_all (left c) es) (typed_all (right c) es)
all_typed c [] no_one = alone (λ k. refl)
all_typed c (e ∷ es) (one_and s each) = behind (s.types c) (all_typed c es each)

and_alike : (a b c d : Bool) → a ≡ c → b ≡ d → (a && b) ≡ (c && d)
and_alike a b c d e f = cc

all_values_alike : (c : Two) (es : List Expression) → Each AlikeExpression es → all_values (left c) es ≡ all_values (right c) es
all_values_alike c [] no_one = refl
all_values_alike c (e ∷ es) (one_and s each) = and_alike (e.is_value (left c)) (all_values (left c) es) (e.is_value (right c)) (all_values (right c) es) (s.values c) (all_values_alike c es each)

-- a name: that it is bound, and then an instance of what is found
abbrev use_behind : Typ → Option Scheme → List Condition
use_behind t o = elim o [ None ↦ [] | Some s ↦ instance s t ∷ [] ]

use_silent : (t u : Typ) (o p : Option Scheme) → Same (use_behind t o) (use_behind u p)
use_silent t u None None = alone (λ k. refl)
use_silent t u None (Some s) = alone (λ k. refl)
use_silent t u (Some s) None = alone (λ k. refl)
use_silent t u (Some s) (Some z) = alone (λ k. refl)

-- the scheme that is found, where the demand is kept
abbrev scheme_found : Context → ℕ → ℕ → Written → Tok → Option Scheme
scheme_found c n j p x = if c.kept (site n j) then then_by (referent_of (found_by c value_kind p x)) scheme_in else None

pub value_alike : (c : Two) (n j : ℕ) (p : Written) (t u : Typ) → Same (value_asks (left c) n j p t) (value_asks (right c) n j p u)
value_alike c n j p t u = by p.last refl
  where
    by : (o : Option Tok) → p.last ≡ o → Same (value_asks (left c) n j p t) (value_asks (right c) n j p u)
    by None e = rw (e, value_asks) (alone (λ k. refl))
    by (Some x) e = rw (e, value_asks) (at_bound c n j value_kind value_word p x (use_silent t u (scheme_found (left c) n j p x) (scheme_found (right c) n j p x)))

name_form_alike : (p : Written) → IsFormAlike (name_form p)
name_form_alike p = by p.last refl
  where
    of_kind : (t : Tok) → p.last ≡ Some t → (s : Kind) → t.kind ≡ s → IsFormAlike (name_form p)
    of_kind t e lower f = rw (e, f, name_form) tt
    of_kind t e _ f = rw (e, f, name_form) tt

    by : (o : Option Tok) → p.last ≡ o → IsFormAlike (name_form p)
    by None e = rw (e, name_form) tt
    by (Some t) e = of_kind t e t.kind refl

pub name_alike : (n : ℕ) (q : Place) (p : Written) → AlikeExpression (name_expression n q p)
name_alike n q p = usual n q (name_form p) _ _ (name_form_alike p) (λ c. value_alike c n 0 p (type_at (left c) n) (type_at (right c) n)) (λ c. refl)

pub econ_alike : (n : ℕ) (q : Place) (p : Written) → AlikeExpression (constructor_expression n q p)
econ_alike n q p = usual n q (a_constructor p) _ _ tt (λ c. constructor_alone_alike c n p) (λ c. refl)

pub path_alike : (n : ℕ) (q : Place) (p : Written) → AlikeExpression (path_expression n q p)
path_alike n q p = by p.last refl
  where
    of_kind : (t : Tok) → p.last ≡ Some t → (s : Kind) → t.kind ≡ s → AlikeExpression (path_expression n q p)
    of_kind t e upper f = rw (e, f, path_expression) (econ_alike n q p)
    of_kind t e _ f = rw (e, f, path_expression) (name_alike n q p)

    by : (o : Option Tok) → p.last ≡ o → AlikeExpression (path_expression n q p)
    by None e = rw (e, path_expression) (usual n q other _ _ tt (λ c. alone (λ k. refl)) (λ c. refl))
    by (Some t) e = of_kind t e t.kind refl

literal_form_alike : (t : Option Tok) → IsFormAlike (literal_form t)
literal_form_alike None = tt
literal_form_alike (Some t) = of_kind t.kind refl
  where
    of_kind : (s : Kind) → t.kind ≡ s → IsFormAlike (literal_form (Some t))
    of_kind float f = rw (f, literal_form) tt
    of_kind false_word f = rw (f, literal_form) tt
    of_kind _ f = rw (f, literal_form) tt

pub econst_alike : (n : ℕ) (q : Place) (t : Option Tok) → AlikeExpression (constant_expression n q t)
econst_alike n q t = record { types = constant_alike false n t; negates = constant_alike true n t; values = λ c. refl; forms = literal_form_alike t }

pub hole_alike : (n : ℕ) (q : Place) → AlikeExpression (hole_expression n q)
hole_alike n q = usual n q other _ _ tt (λ c. alone (λ k. refl)) (λ c. refl)

pub eparen_alike : (n : ℕ) (q : Place) (e : Expression) (t : Option TypeExpression) → AlikeExpression e → IfThere AlikeType t → AlikeExpression (parenthesised n q e t)
eparen_alike n q e None s absent = usual n q other _ _ tt (λ c. behind (s.types c) (alone (λ k. refl))) s.values
eparen_alike n q e (Some t) s (there r) =
    usual n q other _ _ tt (λ c. behind (behind (behind (s.types c) (r.reads c)) (alone (λ k. refl))) (alone (λ k. refl))) s.values

pub ebegin_alike : (n : ℕ) (q : Place) (e : Option Expression) → IfThere AlikeExpression e → AlikeExpression (begun n q e)
ebegin_alike n q None absent = usual n q other _ _ tt (λ c. alone (λ k. refl)) (λ c. refl)
ebegin_alike n q (Some e) (there s) = usual n q other _ _ tt (λ c. behind (s.types c) (alone (λ k. refl))) s.values

-- expressions that have one type
each_has_alike : (c : Two) (n j : ℕ) (t u : Typ) (es : List Expression) → Same (ask_all n j (each_has (left c) t es)) (ask_all n j (each_has (right c) u es))
each_has_alike c n j t u [] = alone (λ k. refl)
each_has_alike c n j t u (e ∷ es) = at_demand refl (each_has_alike c n (j + 1) t u es)

pub elist_alike : (n : ℕ) (q : Place) (es : List Expression) → Each AlikeExpression es → AlikeExpression (list_expression n q es)
elist_alike n q es each = usual n q other _ _ tt
    (λ c. behind (behind (all_typed c es (typed_too es each)) (each_has_alike c n 0 (first_type (left c) n es) (first_type (right c) n es) (behind_first es))) (alone (λ k. refl))) (λ c. all_values_alike c es each)

pub econs_alike : (n : ℕ) (q : Place) (e f : Expression) → AlikeExpression e → AlikeExpression f → AlikeExpression (cons_expression n q e f)
econs_alike n q e f s z = usual n q other _ _ tt (λ c. behind (behind (behind (s.types c) (z.types c)) (alone (λ k. refl))) (alone (λ k. refl)))
    (λ c. and_alike (e.is_value (left c)) (f.is_value (left c)) (e.is_value (right c)) (f.is_value (right c)) (s.values c) (z.values c))

pub etuple_alike : (n : ℕ) (q : Place) (es : List Expression) → Each AlikeExpression es → AlikeExpression (tuple_expression n q es)
etuple_alike n q es each = usual n q other _ _ tt (λ c. behind (all_typed c es (typed_too es each)) (alone (λ k. refl))) (λ c. all_values_alike c es each)

-- a head and its arguments
pub applied_from_alike : (c : Two) (n j i : ℕ) (q : Place) (h g : Typ) (es : List Expression) → Each TypedAlike es → Same (applied_from (left c) n j i q h es) (applied_from (right c) n j i q g es)
applied_from_alike c n j i q h g [] no_one = alone (λ k. refl)
applied_from_alike c n j i q h g (e ∷ es) (one_and s each) =
    at_demand refl (behind (behind (s.types c) (alone (λ k. refl))) (applied_from_alike c n (j + 2) (i + 2) q (letter (left c) n (i + 1)) (letter (right c) n (i + 1)) es each))

unbound_alike : (c : Two) (n : ℕ) (head : Expression) (es : List Expression) → Each TypedAlike es → Same (behind_unbound (left c) n head es) (behind_unbound (right c) n head es)
unbound_alike c n head [] no_one = alone (λ k. refl)
unbound_alike c n head (e ∷ es) each = all_typed c (e ∷ es) each

behind_constructor_alike : (c : Two) (n : ℕ) (head : Expression) (es : List Expression) → Each TypedAlike es → Same (behind_constructor (left c) n head es) (behind_constructor (right c) n head es)
behind_constructor_alike c n head [] no_one = alone (λ k. refl)
behind_constructor_alike c n head (e ∷ es) each = applied_from_alike c n 3 0 head.at (type_at (left c) head.node) (type_at (right c) head.node) (e ∷ es) each

argument_alike : (c : Two) (n : ℕ) (head : Expression) (es : List Expression) {o p : Option Built} → BuiltAlike o p → Each TypedAlike es → Same (behind_argument (left c) n head es o) (behind_argument (right c) n head es p)
argument_alike c n head es not_built each = unbound_alike c n head es each
argument_alike c n head es (both_built a) each = behind_constructor_alike c n head es each

constructor_applied_alike : (c : Two) (n : ℕ) (p : Written) (head : Expression) (es : List Expression) → TypedAlike head → Each TypedAlike es → Same (constructor_applied (left c) n p head es) (constructor_applied (right c) n p head es)
constructor_applied_alike c n p head [] h no_one = h.types c
constructor_applied_alike c n p head (e ∷ es) h (one_and s each) =
    behind (applied_alike c n p head.node (head.node ∷ []) (e.typed (left c)) (e.typed (right c)) 2 e.at (type_at (left c) e.node) (type_at (right c) e.node) (s.types c))
    (argument_alike c n head es (then_alike p.last) each)
  where
    then_alike : (o : Option Tok) → BuiltAlike (then_by o (built_by (left c) n p)) (then_by o (built_by (right c) n p))
    then_alike None = not_built
    then_alike (Some t) = built_alike c n p t

application_alike : (c : Two) (n : ℕ) (head : Expression) (es : List Expression) (f : Form) → TypedAlike head → Each TypedAlike es →
    Same (application_asks (left c) n head es f) (application_asks (right c) n head es f)
application_alike c n head es (a_constructor p) h each = constructor_applied_alike c n p head es h each
application_alike c n head es (a_path p) h each = behind (h.types c) (applied_from_alike c n 0 0 head.at (type_at (left c) head.node) (type_at (right c) head.node) es each)
application_alike c n head es a_float h each = behind (h.types c) (applied_from_alike c n 0 0 head.at (type_at (left c) head.node) (type_at (right c) head.node) es each)
application_alike c n head es a_false h each = behind (h.types c) (applied_from_alike c n 0 0 head.at (type_at (left c) head.node) (type_at (right c) head.node) es each)
application_alike c n head es (a_field p l) h each = behind (h.types c) (applied_from_alike c n 0 0 head.at (type_at (left c) head.node) (type_at (right c) head.node) es each)
application_alike c n head es no_expression h each = behind (h.types c) (applied_from_alike c n 0 0 head.at (type_at (left c) head.node) (type_at (right c) head.node) es each)
application_alike c n head es other h each = behind (h.types c) (applied_from_alike c n 0 0 head.at (type_at (left c) head.node) (type_at (right c) head.node) es each)

built_value_alike : (c : Two) (es : List Expression) (f : Form) → Each AlikeExpression es → is_built_value (left c) es f ≡ is_built_value (right c) es f
built_value_alike c es (a_constructor p) each = ap (λ b. (length es == 1) && b) (all_values_alike c es each)
built_value_alike c es (a_path p) each = refl
built_value_alike c es a_float each = refl
built_value_alike c es a_false each = refl
built_value_alike c es (a_field p l) each = refl
built_value_alike c es no_expression each = refl
built_value_alike c es other each = refl

pub eapp_alike : (n : ℕ) (q : Place) (head : Expression) (es : List Expression) → AlikeExpression head → Each AlikeExpression es → AlikeExpression (application n q head es)
eapp_alike n q head es s each =
    usual n q other _ _ tt (λ c. application_alike c n head es head.form (record { types = s.types }) (typed_too es each)) (λ c. built_value_alike c es head.form each)

operator_alike : (c : Two) (n : ℕ) (t : Option Tok) (x : Name) (es : List Expression) → Each TypedAlike es →
    Same (operator_applied (left c) n t x es) (operator_applied (right c) n t x es)
operator_alike c n None x es each = all_typed c es each
operator_alike c n (Some t) x es each =
    behind (value_alike c n 0 (record { qualifiers = []; last = Some (record t { name = x }) }) (letter (left c) n 0) (letter (right c) n 0)) (applied_from_alike c n 1 1 (place_of t) (letter (left c) n 0) (letter (right c) n 0) es each)

pub infix_alike : (n : ℕ) (q : Place) (t : Option Tok) (e f : Expression) → AlikeExpression e → AlikeExpression f → AlikeExpression (infix_expression n q t e f)
infix_alike n q t e f s z = usual n q other _ _ tt (λ c. operator_alike c n t (name_of t) (e ∷ f ∷ []) (one_and (record { types = s.types }) (one_and (record { types = z.types }) no_one))) (λ c. refl)

pub prefix_alike : (n : ℕ) (q : Place) (t : Option Tok) (e : Expression) → AlikeExpression e → AlikeExpression (prefix_expression n q t e)
prefix_alike n q t e s = usual n q other _ _ tt (λ c. operator_alike c n t (name_of t) (e ∷ []) (one_and (record { types = s.types }) no_one)) (λ c. refl)

under_sign_alike : (t : Option Tok) (e : Expression) → AlikeExpression e → TypedAlike (under_sign t e)
under_sign_alike t e s = by (same_name (name_of t) (codes "-"))
  where
    by : (b : Bool) → TypedAlike (if b then record e { typed = e.negated } else e)
    by true = record { types = s.negates }
    by false = record { types = s.types }

minus_alike : (c : Two) (n : ℕ) (t : Option Tok) (e : Expression) (f : Form) → AlikeExpression e → Same (minus_asks (left c) n t e f) (minus_asks (right c) n t e f)
minus_alike c n t e a_float s = behind (s.negates c) (alone (λ k. refl))
minus_alike c n t e (a_constructor p) s = operator_alike c n t (codes "~" ++ name_of t) (under_sign t e ∷ []) (one_and (under_sign_alike t e s) no_one)
minus_alike c n t e (a_path p) s = operator_alike c n t (codes "~" ++ name_of t) (under_sign t e ∷ []) (one_and (under_sign_alike t e s) no_one)
minus_alike c n t e a_false s = operator_alike c n t (codes "~" ++ name_of t) (under_sign t e ∷ []) (one_and (under_sign_alike t e s) no_one)
minus_alike c n t e (a_field p l) s = operator_alike c n t (codes "~" ++ name_of t) (under_sign t e ∷ []) (one_and (under_sign_alike t e s) no_one)
minus_alike c n t e no_expression s = operator_alike c n t (codes "~" ++ name_of t) (under_sign t e ∷ []) (one_and (under_sign_alike t e s) no_one)
minus_alike c n t e other s = operator_alike c n t (codes "~" ++ name_of t) (under_sign t e ∷ []) (one_and (under_sign_alike t e s) no_one)

pub eneg_alike : (n : ℕ) (q : Place) (t : Option Tok) (e : Expression) → AlikeExpression e → AlikeExpression (minus_expression n q t e)
eneg_alike n q t e s = usual n q other _ _ tt (λ c. minus_alike c n t e e.form s) (λ c. refl)

-- a field
abbrev field_behind : Context → ℕ → Expression → Option (Declaration × Label) → List Condition
field_behind c n e o = elim o [ None ↦ [] | Some (d, l) ↦ has_type c n 1 e (used_at c n (type_of d)) ++ is_of c n (used_at c n l.body) ]

-- a label that is found, with its declaration
record FieldAlike (x y : Declaration × Label) : Type 0 where
  pub label : LabelAlike x.1 y.1

-- the label that a path finds is alike
field_there : (r : Referent) → Both FieldAlike (label_in r) (label_in r)
field_there (a_label d l) = somes (record { label = record { name = refl; is_mutable = refl } })
field_there _ = nones

stands_field : {r q : Referent} → ReferentAlike r q → Both FieldAlike (label_in r) (label_in q)
stands_field (one_thing {r = r}) = field_there r
stands_field two_values = nones
stands_field (two_exceptions h) = nones
stands_field (two_constructors h) = nones
stands_field (two_labels o d h) = somes (record { label = h })
stands_field (two_types d) = nones

label_both : {f g : FoundAmong Entry} → ComesAlike f g → Both FieldAlike (then_by (referent_of f) label_in) (then_by (referent_of g) label_in)
label_both (at_entry a) = stands_field a.stands
label_both at_hole = nones
label_both at_nothing = nones

label_alike : (c : Two) (p : Written) → Both FieldAlike (label_found (left c) p) (label_found (right c) p)
label_alike c p = by p.last
  where
    by : (o : Option Tok) → Both FieldAlike (then_by o (λ t. then_by (referent_of (found_by (left c) label_kind p t)) label_in)) (then_by o (λ t. then_by (referent_of (found_by (right c) label_kind p t)) label_in))
    by None = nones
    by (Some t) = label_both (lookup_alike (names_of p.qualifiers) label_kind t.name c.names)

field_silent : (c : Two) (n : ℕ) (e : Expression) {o r : Option (Declaration × Label)} → Both FieldAlike o r → Same (field_behind (left c) n e o) (field_behind (right c) n e r)
field_silent c n e nones = alone (λ k. refl)
field_silent c n e (somes h) = alone (λ k. refl)

field_asked : (c : Two) (n : ℕ) (e : Expression) (p : Written) → AlikeExpression e → Same (field_asks (left c) n e p) (field_asks (right c) n e p)
field_asked c n e p s = by p.last refl
  where
    by : (o : Option Tok) → p.last ≡ o → Same (field_asks (left c) n e p) (field_asks (right c) n e p)
    by None g = rw (g, field_asks) (s.types c)
    by (Some t) g = rw (g, field_asks) (behind (behind (s.types c) (at_bound c n 0 label_kind label_word p t (alone (λ k. refl))))
        (field_silent c n e (both_if (c.first.kept (site n 0)) (label_alike c p))))

pub field_alike : (n : ℕ) (q : Place) (e : Expression) (p : Written) → AlikeExpression e → AlikeExpression (field_expression n q e p)
field_alike n q e p s = record {
  types = λ c. field_asked c n e p s;
  negates = λ c. field_asked c n e p s;
  values = s.values;
  forms = λ c. both_if (c.first.kept (site n 0)) (mutable_both (label_alike c p));
}
  where
    mutable_both : {o r : Option (Declaration × Label)} → Both FieldAlike o r → Both IsMutableAlike (option_map (λ z. z.1) o) (option_map (λ z. z.1) r)
    mutable_both nones = nones
    mutable_both (somes h) = somes (record { one = h.label.is_mutable })

abbrev mutable_behind : ℕ → Written → Option Label → List Condition
mutable_behind n p o = elim o [ None ↦ [] | Some l ↦ elim p.last [ None ↦ [] | Some t ↦ ask n 0 (place_of t) (test (not_mutable t.name) l.is_mutable) ] ]

mutable_one : (n : ℕ) (p : Written) {o r : Option Label} → Both IsMutableAlike o r → Same (mutable_behind n p o) (mutable_behind n p r)
mutable_one n p nones = alone (λ k. refl)
mutable_one n p (somes {x = l} {y = m} h) = by p.last
  where
    by : (t : Option Tok) → Same (elim t [ None ↦ [] | Some t ↦ ask n 0 (place_of t) (test (not_mutable t.name) l.is_mutable) ]) (elim t [ None ↦ [] | Some t ↦ ask n 0 (place_of t) (test (not_mutable t.name) m.is_mutable) ])
    by None = alone (λ k. refl)
    by (Some t) = alone (λ k. refl)

mutable_alike : (c : Two) (n : ℕ) (f : Form) → IsFormAlike f → Same (ask_mutable (left c) n f) (ask_mutable (right c) n f)
mutable_alike c n (a_field p label) h = mutable_one n p (h c)
mutable_alike c n (a_constructor p) h = alone (λ k. refl)
mutable_alike c n (a_path p) h = alone (λ k. refl)
mutable_alike c n a_float h = alone (λ k. refl)
mutable_alike c n a_false h = alone (λ k. refl)
mutable_alike c n no_expression h = alone (λ k. refl)
mutable_alike c n other h = alone (λ k. refl)

pub eset_alike : (n : ℕ) (q : Place) (e f : Expression) → AlikeExpression e → AlikeExpression f → AlikeExpression (set_expression n q e f)
eset_alike n q e f s z =
    usual n q other _ _ tt (λ c. behind (behind (behind (behind (s.types c) (mutable_alike c n e.form s.forms)) (z.types c)) (alone (λ k. refl))) (alone (λ k. refl))) (λ c. refl)

-- fields of records
abbrev pun_has : Context → Field → Tok → Option Typ → List Condition
pun_has c f x o = elim o [ None ↦ [] | Some t ↦ ask f.node 2 (place_of x) (equal (letter c f.node 0) t) ]

pun_alike : (c : Two) (f : Field) (t u : Option Typ) → BothThere t u → Same (pun_asks (left c) f t) (pun_asks (right c) f u)
pun_alike c f t u h = by f.label.last refl
  where
    has : (x : Tok) {t u : Option Typ} → BothThere t u → Same (pun_has (left c) f x t) (pun_has (right c) f x u)
    has x neither = alone (λ k. refl)
    has x both = alone (λ k. refl)

    by : (o : Option Tok) → f.label.last ≡ o → Same (pun_asks (left c) f t) (pun_asks (right c) f u)
    by None e = rw (e, pun_asks) (alone (λ k. refl))
    by (Some x) e = rw (e, pun_asks) (behind (value_alike c f.node 1 (record { qualifiers = []; last = Some x }) (letter (left c) f.node 0) (letter (right c) f.node 0)) (has x h))

-- that the value of a field has a type, if there is one
abbrev value_has : Context → Field → Expression → Option Typ → List Condition
value_has c f e o = elim o [ None ↦ [] | Some t ↦ has_type c f.node 2 e t ]

field_value_alike : (c : Two) (is_found : Bool) (f : Field) (names : List Name) (t u : Option Typ) → BothThere t u → AlikeField f →
    Same (field_value_asks (left c) is_found f names t) (field_value_asks (right c) is_found f names u)
field_value_alike c is_found f names t u h s = by f.value refl s.value
  where
    has : (e : Expression) {t u : Option Typ} → BothThere t u → Same (value_has (left c) f e t) (value_has (right c) f e u)
    has e neither = alone (λ k. refl)
    has e both = alone (λ k. refl)

    by : (o : Option Expression) → f.value ≡ o → IfThere AlikeExpression o → Same (field_value_asks (left c) is_found f names t) (field_value_asks (right c) is_found f names u)
    by None e absent = rw (e, field_value_asks) (at_treated (behind (one (if is_found then ask_once f.node 0 names f.label else [])) (pun_alike c f t u h)))
    by (Some v) e (there z) = rw (e, field_value_asks) (at_treated (behind (one (if is_found then ask_once f.node 0 names f.label else [])) (behind (z.types c) (has v h))))

some_alike : {o r : Option Declaration} → Both DeclarationAlike o r → is_some o ≡ is_some r
some_alike nones = refl
some_alike (somes a) = refl

fields_alike : (c : Two) (n : ℕ) {o r : Option Declaration} (fs : List Field) (names : List Name) → Both DeclarationAlike o r → Each AlikeField fs →
    Same (fields_ask (left c) n o fs names) (fields_ask (right c) n r fs names)
fields_alike c n [] names a no_one = alone (λ k. refl)
fields_alike c n {o} {r} (f ∷ fs) names a (one_and s each) =
    behind (along (λ b. field_value_asks (left c) b f names (field_type (left c) n f.node o f.label)) (λ b. field_value_asks (right c) b f names (field_type (right c) n f.node r f.label)) (some_alike a)
    (field_value_alike c (is_some o) f names (field_type (left c) n f.node o f.label) (field_type (right c) n f.node r f.label) (field_types c n f.node f.label a) s)) (fields_alike c n fs (names ++ name_in f.label) a each)

record_silent : (c : Two) (n : ℕ) {o r : Option Declaration} → Both DeclarationAlike o r → Same (is_record (left c) n o) (is_record (right c) n r)
record_silent c n nones = alone (λ k. refl)
record_silent c n (somes a) = alone (λ k. refl)

-- the first label that isn't written has one name in both
absent_one : (seen : List Name) {ls ms : List Label} → Lists LabelAlike ls ms → absent_label ls seen ≡ absent_label ms seen
absent_one seen no_pair = refl
absent_one seen (pair_and {x = l} {y = m} {xs = ls} {ys = ms} a h) =
    ap (λ n. if is_among n seen then absent_label ls seen else Some n) a.name ∙ ap (λ o. if is_among m.name seen then o else Some m.name) (absent_one seen h)

absent_alike : (seen : List Name) {o r : Option Declaration} → Both DeclarationAlike o r → then_by o (λ d. absent_label (labels_in d.shape) seen) ≡ then_by r (λ d. absent_label (labels_in d.shape) seen)
absent_alike seen nones = refl
absent_alike seen (somes a) = absent_one seen (labels_alike a.shape)

complete_alike : (n j : ℕ) (q : Place) (seen : List Name) {o r : Option Declaration} → Both DeclarationAlike o r → Same (ask_complete n j q o seen) (ask_complete n j q r seen)
complete_alike n j q seen {o} {r} a = by (then_by o (λ d. absent_label (labels_in d.shape) seen)) refl (sym (absent_alike seen a))
  where
    by : (x : Option Name) → then_by o (λ d. absent_label (labels_in d.shape) seen) ≡ x → then_by r (λ d. absent_label (labels_in d.shape) seen) ≡ then_by o (λ d. absent_label (labels_in d.shape) seen) → Same (ask_complete n j q o seen) (ask_complete n j q r seen)
    by None e f = rw (f, e, ask_complete) (alone (λ k. refl))
    by (Some x) e f = rw (f, e, ask_complete) (alone (λ k. refl))

record_asked : (c : Two) (n : ℕ) (q : Place) (fs : List Field) (xs ys us vs : List Condition) → Each AlikeField fs → Same xs ys → Same us vs → Same (record_asks (left c) n q xs us fs) (record_asks (right c) n q ys vs fs)
record_asked c n q fs xs ys us vs each h g =
    let ls : List Written = labels_of fs in
    let found : Both DeclarationAlike (kept_record (left c) n 1 ls) (kept_record (right c) n 1 ls) = kept_record_alike c n 1 ls in
    behind (behind (behind (behind (behind h (ask_record_alike c n 1 ls)) g) (fields_alike c n fs [] found each)) (complete_alike n 3 q (names_of_labels fs) found)) (record_silent c n found)

abbrev has_record : Context → ℕ → Expression → Option Declaration → List Condition
has_record c n e o = elim o [ None ↦ [] | Some d ↦ has_type c n 2 e (used_at c n (type_of d)) ]

has_silent : (c : Two) (n : ℕ) (e : Expression) {o r : Option Declaration} → Both DeclarationAlike o r → Same (has_record (left c) n e o) (has_record (right c) n e r)
has_silent c n e nones = alone (λ k. refl)
has_silent c n e (somes a) = alone (λ k. refl)

update_asked : (c : Two) (n : ℕ) (e : Expression) (fs : List Field) → AlikeExpression e → Each AlikeField fs → Same (update_asks (left c) n e fs) (update_asks (right c) n e fs)
update_asked c n e fs s each =
    let ls : List Written = labels_of fs in
    let found : Both DeclarationAlike (kept_record (left c) n 1 ls) (kept_record (right c) n 1 ls) = kept_record_alike c n 1 ls in
    behind (behind (behind (behind (s.types c) (ask_record_alike c n 1 ls)) (has_silent c n e found)) (fields_alike c n fs [] found each)) (record_silent c n found)

-- a record by its first part
first_alike : (f : Form) (n : ℕ) (value : Option Expression) → IfThere AlikeExpression value → Each AlikeField (first_field f n value)
first_alike (a_path p) n value s = one_and (record { value = s }) no_one
first_alike (a_constructor p) n value s = no_one
first_alike a_float n value s = no_one
first_alike a_false n value s = no_one
first_alike (a_field p l) n value s = no_one
first_alike no_expression n value s = no_one
first_alike other n value s = no_one

before_alike : (c : Two) (n : ℕ) (e : Expression) (f : Form) → AlikeExpression e → Same (before_labels (left c) n e f) (before_labels (right c) n e f)
before_alike c n e (a_path p) s = alone (λ k. refl)
before_alike c n e no_expression s = s.types c
before_alike c n e (a_constructor p) s = at_demand refl (s.types c)
before_alike c n e a_float s = at_demand refl (s.types c)
before_alike c n e a_false s = at_demand refl (s.types c)
before_alike c n e (a_field p l) s = at_demand refl (s.types c)
before_alike c n e other s = at_demand refl (s.types c)

abbrev as_list : Option Expression → List Expression
as_list o = elim o [ None ↦ [] | Some e ↦ e ∷ [] ]

list_typed : (o : Option Expression) → IfThere AlikeExpression o → Each TypedAlike (as_list o)
list_typed None absent = no_one
list_typed (Some e) (there s) = one_and (record { types = s.types }) no_one

loose_alike : (c : Two) (f : Form) (value : Option Expression) → IfThere AlikeExpression value → Same (loose_value (left c) f value) (loose_value (right c) f value)
loose_alike c (a_path p) value s = alone (λ k. refl)
loose_alike c (a_constructor p) value s = all_typed c (as_list value) (list_typed value s)
loose_alike c a_float value s = all_typed c (as_list value) (list_typed value s)
loose_alike c a_false value s = all_typed c (as_list value) (list_typed value s)
loose_alike c (a_field p l) value s = all_typed c (as_list value) (list_typed value s)
loose_alike c no_expression value s = all_typed c (as_list value) (list_typed value s)
loose_alike c other value s = all_typed c (as_list value) (list_typed value s)

abbrev value_in : Context → Option Expression → Bool
value_in c o = elim o [ None ↦ true | Some e ↦ e.is_value c ]

value_in_alike : (c : Two) (o : Option Expression) → IfThere AlikeExpression o → value_in (left c) o ≡ value_in (right c) o
value_in_alike c None absent = refl
value_in_alike c (Some e) (there s) = s.values c

field_values_alike : (c : Two) (fs : List Field) → Each AlikeField fs → all_field_values (left c) fs ≡ all_field_values (right c) fs
field_values_alike c [] no_one = refl
field_values_alike c (f ∷ fs) (one_and s each) =
    and_alike (value_in (left c) f.value) (all_field_values (left c) fs) (value_in (right c) f.value) (all_field_values (right c) fs) (value_in_alike c f.value s.value) (field_values_alike c fs each)

none_mutable_alike : {ls ms : List Label} → Lists LabelAlike ls ms → none_mutable ls ≡ none_mutable ms
none_mutable_alike no_pair = refl
none_mutable_alike (pair_and {x = l} {y = m} {xs = ls} {ys = ms} a h) = and_alike (not l.is_mutable) (none_mutable ls) (not m.is_mutable) (none_mutable ms) (ap not a.is_mutable) (none_mutable_alike h)

abbrev is_constant : Option Declaration → Bool
is_constant o = elim o [ None ↦ true | Some d ↦ none_mutable (labels_in d.shape) ]

constant_declaration : {o r : Option Declaration} → Both DeclarationAlike o r → is_constant o ≡ is_constant r
constant_declaration nones = refl
constant_declaration (somes a) = none_mutable_alike (labels_alike a.shape)

constant_record_alike : (c : Two) (fs : List Field) → Each AlikeField fs → is_constant_record (left c) fs ≡ is_constant_record (right c) fs
constant_record_alike c fs each =
    and_alike (is_constant (declaration_found (left c) (labels_of fs))) (all_field_values (left c) fs) (is_constant (declaration_found (right c) (labels_of fs))) (all_field_values (right c) fs)
    (constant_declaration (declaration_alike c (labels_of fs))) (field_values_alike c fs each)

pub erecord_alike : (n : ℕ) (q : Place) (e : Expression) (value : Option Expression) (fs : List Field) → AlikeExpression e → IfThere AlikeExpression value → Each AlikeField fs →
    AlikeExpression (record_expression n q e value fs)
erecord_alike n q e value fs s v each =
    let all : Each AlikeField (first_field e.form e.node value ++ fs) = each_append (first_alike e.form e.node value v) each in
    usual n q other _ _ tt
    (λ c. record_asked c n q (first_field e.form e.node value ++ fs) (before_labels (left c) n e e.form) (before_labels (right c) n e e.form) (loose_value (left c) e.form value) (loose_value (right c) e.form value)
    all (before_alike c n e e.form s) (loose_alike c e.form value v))
    (λ c. constant_record_alike c (first_field e.form e.node value ++ fs) all)

pub eupdate_alike : (n : ℕ) (q : Place) (e : Expression) (fs : List Field) → AlikeExpression e → Each AlikeField fs → AlikeExpression (update_expression n q e fs)
eupdate_alike n q e fs s each = usual n q other _ _ tt (λ c. update_asked c n e fs s each)
    (λ c. and_alike (e.is_value (left c)) (is_constant_record (left c) fs) (e.is_value (right c)) (is_constant_record (right c) fs) (s.values c) (constant_record_alike c fs each))

assert_alike : (c : Two) (n : ℕ) (e : Expression) (f : Form) → AlikeExpression e → Same (assert_asks (left c) n e f) (assert_asks (right c) n e f)
assert_alike c n e a_false s = s.types c
assert_alike c n e (a_constructor p) s = behind (behind (s.types c) (alone (λ k. refl))) (alone (λ k. refl))
assert_alike c n e (a_path p) s = behind (behind (s.types c) (alone (λ k. refl))) (alone (λ k. refl))
assert_alike c n e a_float s = behind (behind (s.types c) (alone (λ k. refl))) (alone (λ k. refl))
assert_alike c n e (a_field p l) s = behind (behind (s.types c) (alone (λ k. refl))) (alone (λ k. refl))
assert_alike c n e no_expression s = behind (behind (s.types c) (alone (λ k. refl))) (alone (λ k. refl))
assert_alike c n e other s = behind (behind (s.types c) (alone (λ k. refl))) (alone (λ k. refl))

pub eassert_alike : (n : ℕ) (q : Place) (e : Expression) → AlikeExpression e → AlikeExpression (assert_expression n q e)
eassert_alike n q e s = usual n q other _ _ tt (λ c. assert_alike c n e e.form s) (λ c. refl)

pub eif_alike : (n : ℕ) (q : Place) (e f : Expression) (g : Option Expression) → AlikeExpression e → AlikeExpression f → IfThere AlikeExpression g → AlikeExpression (if_expression n q e f g)
eif_alike n q e f None s z absent = usual n q other _ _ tt (λ c. behind (behind (behind (behind (s.types c) (alone (λ k. refl))) (z.types c)) (alone (λ k. refl))) (alone (λ k. refl))) z.values
eif_alike n q e f (Some g) s z (there w) =
    usual n q other _ _ tt (λ c. behind (behind (behind (behind (behind (s.types c) (alone (λ k. refl))) (z.types c)) (w.types c)) (alone (λ k. refl))) (alone (λ k. refl)))
    (λ c. and_alike (f.is_value (left c)) (g.is_value (left c)) (f.is_value (right c)) (g.is_value (right c)) (z.values c) (w.values c))

last_silent : (c : Two) (n : ℕ) (o : Option Expression) → Same (elim o [ None ↦ [] | Some e ↦ is_of (left c) n (type_at (left c) e.node) ]) (elim o [ None ↦ [] | Some e ↦ is_of (right c) n (type_at (right c) e.node) ])
last_silent c n None = alone (λ k. refl)
last_silent c n (Some e) = alone (λ k. refl)

pub eseq_alike : (n : ℕ) (q : Place) (es : List Expression) → Each AlikeExpression es → AlikeExpression (sequence_expression n q es)
eseq_alike n q es each = usual n q other _ _ tt (λ c. behind (all_typed c es (typed_too es each)) (last_silent c n (last_of es))) (λ c. refl)

pub ewhile_alike : (n : ℕ) (q : Place) (e f : Expression) → AlikeExpression e → AlikeExpression f → AlikeExpression (while_expression n q e f)
ewhile_alike n q e f s z = usual n q other _ _ tt (λ c. behind (behind (behind (s.types c) (alone (λ k. refl))) (z.types c)) (alone (λ k. refl))) (λ c. refl)

pub efor_alike : (n : ℕ) (q : Place) (x : Option Tok) (e f g : Expression) → AlikeExpression e → AlikeExpression f → AlikeExpression g → AlikeExpression (for_expression n q x e f g)
efor_alike n q x e f g s z w = usual n q other _ _ tt
    (λ c. behind (behind (behind (behind (behind (s.types c) (alone (λ k. refl))) (z.types c)) (alone (λ k. refl))) (w.types (more c (loop_names x)))) (alone (λ k. refl))) (λ c. refl)

-- cases
guard_alike : (n j : ℕ) (g : Option Expression) → IfThere AlikeExpression g → (c : Two) → Same (guard_asks (left c) n j g) (guard_asks (right c) n j g)
guard_alike n j None absent c = alone (λ k. refl)
guard_alike n j (Some e) (there s) c = behind (s.types c) (alone (λ k. refl))

-- the body of a case has a type, if there is one
abbrev body_has : Context → ℕ → ℕ → Expression → Option Typ → List Condition
body_has c n j e o = elim o [ None ↦ [] | Some t ↦ has_type c n (j + 2) e t ]

body_silent : (c : Two) (n j : ℕ) (e : Expression) {t u : Option Typ} → BothThere t u → Same (body_has (left c) n j e t) (body_has (right c) n j e u)
body_silent c n j e neither = alone (λ k. refl)
body_silent c n j e both = alone (λ k. refl)

case_alike : (c : Two) (n j : ℕ) (subject wanted : Typ) (result end : Option Typ) (x : Case) → BothThere result end → AlikeCase x → Same (case_asks (left c) n j subject result x) (case_asks (right c) n j wanted end x)
case_alike c n j subject wanted result end x h s =
    at_treated (behind (behind (behind (behind (s.pattern.matches c []) (alone (λ k. refl))) (guard_alike n (j + 1) x.guard s.guard (more c x.pattern.names))) (s.body.types (more c x.pattern.names))) (body_silent c n j x.body h))

later_alike : (c : Two) (n j : ℕ) (subject wanted result end : Typ) (xs : List Case) → Each AlikeCase xs → Same (later_cases (left c) n j subject result xs) (later_cases (right c) n j wanted end xs)
later_alike c n j subject wanted result end [] no_one = alone (λ k. refl)
later_alike c n j subject wanted result end (x ∷ xs) (one_and s each) = behind (case_alike c n j subject wanted (Some result) (Some end) x both s) (later_alike c n (j + 3) subject wanted result end xs each)

cases_alike : (c : Two) (n : ℕ) (subject wanted : Typ) (xs : List Case) → Each AlikeCase xs → Same (cases_ask (left c) n subject xs) (cases_ask (right c) n wanted xs)
cases_alike c n subject wanted [] no_one = alone (λ k. refl)
cases_alike c n subject wanted (x ∷ xs) (one_and s each) =
    behind (case_alike c n 0 subject wanted None None x neither s) (later_alike c n 3 subject wanted (type_at (left c) x.body.node) (type_at (right c) x.body.node) xs each)

case_values_alike : (c : Two) (xs : List Case) → Each AlikeCase xs → cases_are_values (left c) xs ≡ cases_are_values (right c) xs
case_values_alike c [] no_one = refl
case_values_alike c (x ∷ xs) (one_and s each) =
    and_alike (not (is_some x.guard) && x.body.is_value (left c)) (cases_are_values (left c) xs) (not (is_some x.guard) && x.body.is_value (right c)) (cases_are_values (right c) xs)
    (ap (λ b. not (is_some x.guard) && b) (s.body.values c)) (case_values_alike c xs each)

pub ematch_alike : (n : ℕ) (q : Place) (e : Expression) (xs : List Case) → AlikeExpression e → Each AlikeCase xs → AlikeExpression (match_expression n q e xs)
ematch_alike n q e xs s each = usual n q other _ _ tt (λ c. behind (behind (s.types c) (cases_alike c n (type_at (left c) e.node) (type_at (right c) e.node) xs each)) (alone (λ k. refl)))
    (λ c. and_alike (e.is_value (left c)) (cases_are_values (left c) xs) (e.is_value (right c)) (cases_are_values (right c) xs) (s.values c) (case_values_alike c xs each))

pub etry_alike : (n : ℕ) (q : Place) (e : Expression) (xs : List Case) → AlikeExpression e → Each AlikeCase xs → AlikeExpression (try_expression n q e xs)
etry_alike n q e xs s each = usual n q other _ _ tt (λ c. behind (behind (s.types c) (later_alike c n 0 exn_type exn_type (type_at (left c) e.node) (type_at (right c) e.node) xs each)) (alone (λ k. refl))) (λ c. refl)

pub efunction_alike : (n : ℕ) (q : Place) (xs : List Case) → Each AlikeCase xs → AlikeExpression (function_expression n q xs)
efunction_alike n q xs each = usual n q other _ _ tt (λ c. behind (cases_alike c n (letter (left c) n 0) (letter (right c) n 0) xs each) (alone (λ k. refl))) (λ c. refl)

pub efun_alike : (n : ℕ) (q : Place) (ps : List Pattern) (e : Expression) → Each AlikePattern ps → AlikeExpression e → AlikeExpression (fun_expression n q ps e)
efun_alike n q ps e each s = usual n q other _ _ tt
    (λ c. behind (behind (apart_alike c ps each) (s.types (more c (all_names ps)))) (alone (λ k. refl))) (λ c. refl)

all_generalise_alike : (c : Two) (bs : List Binding) → Each AlikeBinding bs → all_generalise (left c) bs ≡ all_generalise (right c) bs
all_generalise_alike c [] no_one = refl
all_generalise_alike c (b ∷ bs) (one_and s each) =
    and_alike (generalises (left c) b) (all_generalise (left c) bs) (generalises (right c) b) (all_generalise (right c) bs) (generalises_alike c b s) (all_generalise_alike c bs each)

pub elet_alike : (n : ℕ) (q : Place) (is_rec : Bool) (bs : List Binding) (e : Expression) → Each AlikeBinding bs → AlikeExpression e → AlikeExpression (let_expression n q is_rec bs e)
elet_alike n q is_rec bs e each s = usual n q other _ _ tt (λ c. behind (behind (bindings_alike c is_rec bs each) (s.types (in_let c bs))) (alone (λ k. refl)))
    (λ c. and_alike (all_generalise (left c) bs) (e.is_value (left c)) (all_generalise (right c) bs) (e.is_value (right c)) (all_generalise_alike c bs each) (s.values c))
