-- What expressions ask goes together.
use Rattle.std.proofs.Common.{◌≡◌, ℕ, ◌+◌, ◌==◌, Bool, true, false, not, ◌&&◌, List, [], ◌∷◌, ◌++◌, codes, length, Option, Some, None, option_map, refl, ap, if◌then◌else◌}
use Rattle.token_model.specs.Kinds.{Tok, Kind, lower, upper, float, false_word}
use Rattle.tree_model.specs.Trees.{Place}
use Rattle.type_model.specs.Types.{Typ}
use Rattle.type_model.specs.Schemes.{Scheme}
use Rattle.signature_model.specs.Declarations.{Name, Declaration, Label, type_of}
use Rattle.signature_model.specs.Components.{same_name}
use Rattle.signature_model.specs.Entries.{Environment, value_kind, label_kind}
use Rattle.typing_model.specs.Demands.{Site, site, label_word, Demand, equal, test, not_mutable, Condition, instance, known, demand, treated}
use Rattle.typing_model.specs.Contexts.{Context, type_at, letter, ask}
use Rattle.typing_model.specs.Parts.{Written, Form, a_constructor, a_path, a_float, a_false, a_field, no_expression, other, Expression, Pattern, TypeExpression, Binding, Case, Field, no_expression_at, place_of}
use Rattle.typing_model.specs.Names.{ask_bound, Built, found_by, referent_of, then_by, scheme_in, used_at}
use Rattle.typing_model.specs.Records.{ask_record, ask_once, name_in, field_type, ask_complete, declaration_found, labels_in}
use Rattle.typing_model.specs.BuiltIns.{exn_type}
use Rattle.typing_model.specs.Patterns.{built_by, applied_constructor, argument_has, kept_record, all_names}
use Rattle.typing_model.specs.Bindings.{generalises}
use Rattle.typing_model.specs.Expressions.{expression, typed_all, all_values, has_type, is_of, value_asks, name_form, name_expression, constructor_expression, path_expression, literal_form, constant_expression, hole_expression, parenthesised, begun, list_expression, cons_expression, tuple_expression, applied_from, behind_constructor, behind_unbound, behind_argument, constructor_applied, application_asks, is_built_value, application, operator_applied, name_of, infix_expression, prefix_expression, under_sign, minus_asks, minus_expression, label_found, field_asks, field_expression, ask_mutable, set_expression, pun_asks, field_value_asks, is_some, fields_ask, labels_of, names_of_labels, is_record, record_asks, update_asks, first_field, before_labels, loose_value, all_field_values, none_mutable, is_constant_record, record_expression, update_expression, assert_asks, assert_expression, if_expression, sequence_expression, while_expression, loop_names, for_expression, guard_asks, case_asks, later_cases, cases_ask, cases_are_values, match_expression, try_expression, function_expression, fun_expression, all_generalise, let_expression}
use Rattle.typing_laws.proofs.Together.{Kept, keeping, Agreed, past_treated, past_known, kept_alike, agree_first, agree_left, agree_right}
use Rattle.typing_laws.proofs.Whole.{Whole, at_end, at_demand, at_treated, alone, behind, along}
use Rattle.typing_laws.proofs.Steady.{Each, no_one, one_and, each_append, IfThere, absent, there, SameName, WholeType, IsFormSteady, SteadyExpression, SteadyPattern, SteadyBinding, SteadyCase, SteadyField, in_scope}
use Rattle.typing_laws.proofs.SteadyPatterns.{constant_alone, built_alike, constructor_alone_alike, applied_alike, record_one, all_names_one}
use Rattle.typing_laws.proofs.SteadyBindings.{apart_alike, bindings_alike, generalises_alike, in_let}

-- an expression asks the same demands; what else is steady of it isn't told
pub record TypedAlike (k m : Kept) (e : Expression) : Type 0 where
  pub types : (c : Context) → Whole k m (e.typed (keeping k c)) (e.typed (keeping m c))

pub typed_too : {k m : Kept} (es : List Expression) → Each (SteadyExpression k m) es → Each (TypedAlike k m) es
typed_too [] no_one = no_one
typed_too (e ∷ es) (one_and s each) = one_and (record { types = s.types }) (typed_too es each)

pub no_expression_steady : {k m : Kept} (n : ℕ) (q : Place) → SteadyExpression k m (no_expression_at n q)
no_expression_steady n q = record { types = λ c. at_end; negates = λ c. at_end; values = λ c. refl; forms = tt }

-- an expression of the usual kind
usual : {k m : Kept} (n : ℕ) (q : Place) (f : Form) (typed : Context → List Condition) (is_value : Context → Bool) → IsFormSteady k m typed f → ((c : Context) → Whole k m (typed (keeping k c)) (typed (keeping m c))) →
    ((c : Context) → is_value (keeping k c) ≡ is_value (keeping m c)) → SteadyExpression k m (expression n q f typed is_value)
usual n q f typed is_value forms h values = record { types = h; negates = h; values = values; forms = forms }

pub all_typed : {k m : Kept} (c : Context) (es : List Expression) → Each (TypedAlike k m) es → Whole k m (typed_all (keeping k c) es) (typed_all (keeping m c) es)
all_typed c [] no_one = at_end
all_typed c (e ∷ es) (one_and s each) = behind (s.types c) (λ a. all_typed c es each)

and_alike : (a b c d : Bool) → a ≡ c → b ≡ d → (a && b) ≡ (c && d)
and_alike a b c d e f = cc

all_values_alike : {k m : Kept} (c : Context) (es : List Expression) → Each (SteadyExpression k m) es → all_values (keeping k c) es ≡ all_values (keeping m c) es
all_values_alike c [] no_one = refl
all_values_alike {k} {m} c (e ∷ es) (one_and s each) = and_alike (e.is_value (keeping k c)) (all_values (keeping k c) es) (e.is_value (keeping m c)) (all_values (keeping m c) es) (s.values c) (all_values_alike c es each)

-- a name: that it is bound, and then an instance of what is found
abbrev use_behind : Typ → Option Scheme → List Condition
use_behind t o = elim o [ None ↦ [] | Some s ↦ instance s t ∷ [] ]

pub value_alike : {k m : Kept} (c : Context) (n j : ℕ) (p : Written) (t : Typ) → Whole k m (value_asks (keeping k c) n j p t) (value_asks (keeping m c) n j p t)
value_alike {k} {m} c n j p t = by p.last refl
  where
    by : (o : Option Tok) → p.last ≡ o → Whole k m (value_asks (keeping k c) n j p t) (value_asks (keeping m c) n j p t)
    by None e = rw (e, value_asks) at_end
    by (Some x) e = rw (e, value_asks) (at_demand (λ a.
        along (use_behind t) (use_behind t) (ap (λ b. if b then then_by (referent_of (found_by c value_kind p x)) scheme_in else None) a) (alone _)))

name_form_steady : (k m : Kept) (typed : Context → List Condition) (p : Written) → IsFormSteady k m typed (name_form p)
name_form_steady k m typed p = by p.last refl
  where
    of_kind : (t : Tok) → p.last ≡ Some t → (s : Kind) → t.kind ≡ s → IsFormSteady k m typed (name_form p)
    of_kind t e lower f = rw (e, f, name_form) tt
    of_kind t e _ f = rw (e, f, name_form) tt

    by : (o : Option Tok) → p.last ≡ o → IsFormSteady k m typed (name_form p)
    by None e = rw (e, name_form) tt
    by (Some t) e = of_kind t e t.kind refl

pub name_steady : {k m : Kept} (n : ℕ) (q : Place) (p : Written) → SteadyExpression k m (name_expression n q p)
name_steady {k} {m} n q p = usual n q (name_form p) _ _ (name_form_steady k m (λ c. value_asks c n 0 p (type_at c n)) p) (λ c. value_alike c n 0 p (type_at c n)) (λ c. refl)

pub econ_steady : {k m : Kept} (n : ℕ) (q : Place) (p : Written) → SteadyExpression k m (constructor_expression n q p)
econ_steady n q p = usual n q (a_constructor p) _ _ tt (λ c. constructor_alone_alike c n p) (λ c. refl)

pub path_steady : {k m : Kept} (n : ℕ) (q : Place) (p : Written) → SteadyExpression k m (path_expression n q p)
path_steady {k} {m} n q p = by p.last refl
  where
    of_kind : (t : Tok) → p.last ≡ Some t → (s : Kind) → t.kind ≡ s → SteadyExpression k m (path_expression n q p)
    of_kind t e upper f = rw (e, f, path_expression) (econ_steady n q p)
    of_kind t e _ f = rw (e, f, path_expression) (name_steady n q p)

    by : (o : Option Tok) → p.last ≡ o → SteadyExpression k m (path_expression n q p)
    by None e = rw (e, path_expression) (usual n q other _ _ tt (λ c. at_end) (λ c. refl))
    by (Some t) e = of_kind t e t.kind refl

literal_form_steady : (k m : Kept) (typed : Context → List Condition) (t : Option Tok) → IsFormSteady k m typed (literal_form t)
literal_form_steady k m typed None = tt
literal_form_steady k m typed (Some t) = of_kind t.kind refl
  where
    of_kind : (s : Kind) → t.kind ≡ s → IsFormSteady k m typed (literal_form (Some t))
    of_kind float f = rw (f, literal_form) tt
    of_kind false_word f = rw (f, literal_form) tt
    of_kind _ f = rw (f, literal_form) tt

pub econst_steady : {k m : Kept} (n : ℕ) (q : Place) (t : Option Tok) → SteadyExpression k m (constant_expression n q t)
econst_steady {k} {m} n q t = record { types = constant_alone false n t; negates = constant_alone true n t; values = λ c. refl; forms = literal_form_steady k m (constant_expression n q t).typed t }

pub hole_steady : {k m : Kept} (n : ℕ) (q : Place) → SteadyExpression k m (hole_expression n q)
hole_steady n q = usual n q other _ _ tt (λ c. at_end) (λ c. refl)

pub eparen_steady : {k m : Kept} (n : ℕ) (q : Place) (e : Expression) (t : Option TypeExpression) → SteadyExpression k m e → IfThere (WholeType k m) t → SteadyExpression k m (parenthesised n q e t)
eparen_steady n q e None s absent = usual n q other _ _ tt (λ c. behind (s.types c) (λ a. alone _)) s.values
eparen_steady n q e (Some t) s (there r) =
    usual n q other _ _ tt (λ c. behind (behind (behind (s.types c) (λ a. r.reads c)) (λ a. alone _)) (λ a. alone _)) s.values

pub ebegin_steady : {k m : Kept} (n : ℕ) (q : Place) (e : Option Expression) → IfThere (SteadyExpression k m) e → SteadyExpression k m (begun n q e)
ebegin_steady n q None absent = usual n q other _ _ tt (λ c. alone _) (λ c. refl)
ebegin_steady n q (Some e) (there s) = usual n q other _ _ tt (λ c. behind (s.types c) (λ a. alone _)) s.values

pub elist_steady : {k m : Kept} (n : ℕ) (q : Place) (es : List Expression) → Each (SteadyExpression k m) es → SteadyExpression k m (list_expression n q es)
elist_steady n q es each = usual n q other _ _ tt (λ c. behind (behind (all_typed c es (typed_too es each)) (λ a. alone _)) (λ a. alone _)) (λ c. all_values_alike c es each)

pub econs_steady : {k m : Kept} (n : ℕ) (q : Place) (e f : Expression) → SteadyExpression k m e → SteadyExpression k m f → SteadyExpression k m (cons_expression n q e f)
econs_steady {k} {m} n q e f s z = usual n q other _ _ tt (λ c. behind (behind (behind (s.types c) (λ a. z.types c)) (λ a. alone _)) (λ a. alone _))
    (λ c. and_alike (e.is_value (keeping k c)) (f.is_value (keeping k c)) (e.is_value (keeping m c)) (f.is_value (keeping m c)) (s.values c) (z.values c))

pub etuple_steady : {k m : Kept} (n : ℕ) (q : Place) (es : List Expression) → Each (SteadyExpression k m) es → SteadyExpression k m (tuple_expression n q es)
etuple_steady n q es each = usual n q other _ _ tt (λ c. behind (all_typed c es (typed_too es each)) (λ a. alone _)) (λ c. all_values_alike c es each)

-- a head and its arguments
pub applied_from_alike : {k m : Kept} (c : Context) (n j i : ℕ) (q : Place) (h : Typ) (es : List Expression) → Each (TypedAlike k m) es →
    Whole k m (applied_from (keeping k c) n j i q h es) (applied_from (keeping m c) n j i q h es)
applied_from_alike c n j i q h [] no_one = alone _
applied_from_alike c n j i q h (e ∷ es) (one_and s each) =
    at_demand (λ a. behind (behind (s.types c) (λ b. alone _)) (λ b. applied_from_alike c n (j + 2) (i + 2) q (letter c n (i + 1)) es each))

unbound_alike : {k m : Kept} (c : Context) (n : ℕ) (head : Expression) (es : List Expression) → Each (TypedAlike k m) es → Whole k m (behind_unbound (keeping k c) n head es) (behind_unbound (keeping m c) n head es)
unbound_alike c n head [] no_one = alone _
unbound_alike c n head (e ∷ es) each = all_typed c (e ∷ es) each

behind_constructor_alike : {k m : Kept} (c : Context) (n : ℕ) (head : Expression) (es : List Expression) → Each (TypedAlike k m) es → Whole k m (behind_constructor (keeping k c) n head es) (behind_constructor (keeping m c) n head es)
behind_constructor_alike c n head [] no_one = alone _
behind_constructor_alike c n head (e ∷ es) each = applied_from_alike c n 3 0 head.at (type_at c head.node) (e ∷ es) each

argument_alike : {k m : Kept} (c : Context) (n : ℕ) (head : Expression) (es : List Expression) (o : Option Built) → Each (TypedAlike k m) es → Whole k m (behind_argument (keeping k c) n head es o) (behind_argument (keeping m c) n head es o)
argument_alike c n head es None each = unbound_alike c n head es each
argument_alike c n head es (Some b) each = behind_constructor_alike c n head es each

-- the constructor that is found is one behind its demand
behind_two : {k m : Kept} (i : ℕ) (e : Environment) (t : Typ) (s : Site) (q : Place) (d : Demand) (cs : List Condition) → Agreed k m (treated i e ∷ known t ∷ demand s q d ∷ cs) → k s ≡ m s
behind_two i e t s q d cs (past_treated (past_known (kept_alike f g))) = f

built_behind : {k m : Kept} (c : Context) (n : ℕ) (p : Written) (head : ℕ) (nodes : List ℕ) (xs : List Condition) (has : Option Typ → List Condition) → Agreed k m (applied_constructor (keeping k c) n p head nodes xs has) →
    then_by p.last (built_by (keeping k c) n p) ≡ then_by p.last (built_by (keeping m c) n p)
built_behind {k} {m} c n p head nodes xs has a = by p.last refl
  where
    by : (o : Option Tok) → p.last ≡ o → then_by o (built_by (keeping k c) n p) ≡ then_by o (built_by (keeping m c) n p)
    by None e = refl
    by (Some t) e = built_alike k m c n p t (behind_two _ _ _ _ _ _ _ (rw (e, applied_constructor) at a))

constructor_applied_alike : {k m : Kept} (c : Context) (n : ℕ) (p : Written) (head : Expression) (es : List Expression) → TypedAlike k m head → Each (TypedAlike k m) es →
    Whole k m (constructor_applied (keeping k c) n p head es) (constructor_applied (keeping m c) n p head es)
constructor_applied_alike c n p head [] h no_one = h.types c
constructor_applied_alike {k} {m} c n p head (e ∷ es) h (one_and s each) =
    behind (applied_alike c n p head.node (head.node ∷ []) (e.typed (keeping k c)) (e.typed (keeping m c)) (argument_has n 2 e.at (type_at (keeping k c) e.node)) (s.types c))
    (λ a. along (behind_argument (keeping k c) n head es) (behind_argument (keeping m c) n head es)
    (built_behind c n p head.node (head.node ∷ []) (e.typed (keeping k c)) (argument_has n 2 e.at (type_at (keeping k c) e.node)) a)
    (argument_alike c n head es (then_by p.last (built_by (keeping k c) n p)) each))

application_alike : {k m : Kept} (c : Context) (n : ℕ) (head : Expression) (es : List Expression) (f : Form) → TypedAlike k m head → Each (TypedAlike k m) es →
    Whole k m (application_asks (keeping k c) n head es f) (application_asks (keeping m c) n head es f)
application_alike c n head es (a_constructor p) h each = constructor_applied_alike c n p head es h each
application_alike c n head es (a_path p) h each = behind (h.types c) (λ a. applied_from_alike c n 0 0 head.at (type_at c head.node) es each)
application_alike c n head es a_float h each = behind (h.types c) (λ a. applied_from_alike c n 0 0 head.at (type_at c head.node) es each)
application_alike c n head es a_false h each = behind (h.types c) (λ a. applied_from_alike c n 0 0 head.at (type_at c head.node) es each)
application_alike c n head es (a_field p l) h each = behind (h.types c) (λ a. applied_from_alike c n 0 0 head.at (type_at c head.node) es each)
application_alike c n head es no_expression h each = behind (h.types c) (λ a. applied_from_alike c n 0 0 head.at (type_at c head.node) es each)
application_alike c n head es other h each = behind (h.types c) (λ a. applied_from_alike c n 0 0 head.at (type_at c head.node) es each)

built_value_alike : {k m : Kept} (c : Context) (es : List Expression) (f : Form) → Each (SteadyExpression k m) es → is_built_value (keeping k c) es f ≡ is_built_value (keeping m c) es f
built_value_alike c es (a_constructor p) each = ap (λ b. (length es == 1) && b) (all_values_alike c es each)
built_value_alike c es (a_path p) each = refl
built_value_alike c es a_float each = refl
built_value_alike c es a_false each = refl
built_value_alike c es (a_field p l) each = refl
built_value_alike c es no_expression each = refl
built_value_alike c es other each = refl

pub eapp_steady : {k m : Kept} (n : ℕ) (q : Place) (head : Expression) (es : List Expression) → SteadyExpression k m head → Each (SteadyExpression k m) es → SteadyExpression k m (application n q head es)
eapp_steady n q head es s each =
    usual n q other _ _ tt (λ c. application_alike c n head es head.form (record { types = s.types }) (typed_too es each)) (λ c. built_value_alike c es head.form each)

operator_alike : {k m : Kept} (c : Context) (n : ℕ) (t : Option Tok) (x : Name) (es : List Expression) → Each (TypedAlike k m) es →
    Whole k m (operator_applied (keeping k c) n t x es) (operator_applied (keeping m c) n t x es)
operator_alike c n None x es each = all_typed c es each
operator_alike c n (Some t) x es each =
    behind (value_alike c n 0 (record { qualifiers = []; last = Some (record t { name = x }) }) (letter c n 0)) (λ a. applied_from_alike c n 1 1 (place_of t) (letter c n 0) es each)

pub infix_steady : {k m : Kept} (n : ℕ) (q : Place) (t : Option Tok) (e f : Expression) → SteadyExpression k m e → SteadyExpression k m f → SteadyExpression k m (infix_expression n q t e f)
infix_steady n q t e f s z = usual n q other _ _ tt (λ c. operator_alike c n t (name_of t) (e ∷ f ∷ []) (one_and (record { types = s.types }) (one_and (record { types = z.types }) no_one))) (λ c. refl)

pub prefix_steady : {k m : Kept} (n : ℕ) (q : Place) (t : Option Tok) (e : Expression) → SteadyExpression k m e → SteadyExpression k m (prefix_expression n q t e)
prefix_steady n q t e s = usual n q other _ _ tt (λ c. operator_alike c n t (name_of t) (e ∷ []) (one_and (record { types = s.types }) no_one)) (λ c. refl)

under_sign_alike : {k m : Kept} (t : Option Tok) (e : Expression) → SteadyExpression k m e → TypedAlike k m (under_sign t e)
under_sign_alike {k} {m} t e s = by (same_name (name_of t) (codes "-"))
  where
    by : (b : Bool) → TypedAlike k m (if b then record e { typed = e.negated } else e)
    by true = record { types = s.negates }
    by false = record { types = s.types }

minus_alike : {k m : Kept} (c : Context) (n : ℕ) (t : Option Tok) (e : Expression) (f : Form) → SteadyExpression k m e → Whole k m (minus_asks (keeping k c) n t e f) (minus_asks (keeping m c) n t e f)
minus_alike c n t e a_float s = behind (s.negates c) (λ a. alone _)
minus_alike c n t e (a_constructor p) s = operator_alike c n t (codes "~" ++ name_of t) (under_sign t e ∷ []) (one_and (under_sign_alike t e s) no_one)
minus_alike c n t e (a_path p) s = operator_alike c n t (codes "~" ++ name_of t) (under_sign t e ∷ []) (one_and (under_sign_alike t e s) no_one)
minus_alike c n t e a_false s = operator_alike c n t (codes "~" ++ name_of t) (under_sign t e ∷ []) (one_and (under_sign_alike t e s) no_one)
minus_alike c n t e (a_field p l) s = operator_alike c n t (codes "~" ++ name_of t) (under_sign t e ∷ []) (one_and (under_sign_alike t e s) no_one)
minus_alike c n t e no_expression s = operator_alike c n t (codes "~" ++ name_of t) (under_sign t e ∷ []) (one_and (under_sign_alike t e s) no_one)
minus_alike c n t e other s = operator_alike c n t (codes "~" ++ name_of t) (under_sign t e ∷ []) (one_and (under_sign_alike t e s) no_one)

pub eneg_steady : {k m : Kept} (n : ℕ) (q : Place) (t : Option Tok) (e : Expression) → SteadyExpression k m e → SteadyExpression k m (minus_expression n q t e)
eneg_steady n q t e s = usual n q other _ _ tt (λ c. minus_alike c n t e e.form s) (λ c. refl)

-- a field
abbrev field_behind : Context → ℕ → Expression → Option (Declaration × Label) → List Condition
field_behind c n e o = elim o [ None ↦ [] | Some (d, l) ↦ has_type c n 1 e (used_at c n (type_of d)) ++ is_of c n (used_at c n l.body) ]

field_alike : {k m : Kept} (c : Context) (n : ℕ) (e : Expression) (p : Written) → SteadyExpression k m e → Whole k m (field_asks (keeping k c) n e p) (field_asks (keeping m c) n e p)
field_alike {k} {m} c n e p s = by p.last refl
  where
    by : (o : Option Tok) → p.last ≡ o → Whole k m (field_asks (keeping k c) n e p) (field_asks (keeping m c) n e p)
    by None g = rw (g, field_asks) (s.types c)
    by (Some t) g = rw (g, field_asks) (behind (behind (s.types c) (λ a. alone (ask_bound (keeping k c) n 0 label_kind label_word p t)))
        (λ a. along (field_behind (keeping k c) n e) (field_behind (keeping m c) n e) (ap (λ b. if b then label_found c p else None) (agree_first _ _ _ _ (agree_right (e.typed (keeping k c)) _ a))) (alone _)))

abbrev nothing_found : Option Label
nothing_found = None

either_none : (x y : Bool) → (if x then nothing_found else nothing_found) ≡ (if y then nothing_found else nothing_found)
either_none true true = refl
either_none true false = refl
either_none false true = refl
either_none false false = refl

field_label : {k m : Kept} (c : Context) (n : ℕ) (e : Expression) (p : Written) → Agreed k m (field_asks (keeping k c) n e p) →
    (if k (site n 0) then option_map (λ r. r.1) (label_found (keeping k c) p) else None) ≡ (if m (site n 0) then option_map (λ r. r.1) (label_found (keeping m c) p) else None)
field_label {k} {m} c n e p a = by p.last refl
  where
    by : (o : Option Tok) → p.last ≡ o → (if k (site n 0) then option_map (λ r. r.1) (label_found (keeping k c) p) else None) ≡ (if m (site n 0) then option_map (λ r. r.1) (label_found (keeping m c) p) else None)
    by None g = rw (g, label_found) (either_none (k (site n 0)) (m (site n 0)))
    by (Some t) g = ap (λ b. if b then option_map (λ r. r.1) (label_found c p) else None) (agree_first _ _ _ _ (agree_right (e.typed (keeping k c)) _ (agree_left _ _ (rw (g, field_asks) at a))))

pub field_steady : {k m : Kept} (n : ℕ) (q : Place) (e : Expression) (p : Written) → SteadyExpression k m e → SteadyExpression k m (field_expression n q e p)
field_steady n q e p s = record { types = λ c. field_alike c n e p s; negates = λ c. field_alike c n e p s; values = s.values; forms = λ c a. field_label c n e p a }

abbrev mutable_behind : ℕ → Written → Option Label → List Condition
mutable_behind n p o = elim o [ None ↦ [] | Some l ↦ elim p.last [ None ↦ [] | Some t ↦ ask n 0 (place_of t) (test (not_mutable t.name) l.is_mutable) ] ]

mutable_alike : {k m : Kept} (c : Context) (n : ℕ) (typed : Context → List Condition) (f : Form) → IsFormSteady k m typed f → Agreed k m (typed (keeping k c)) → Whole k m (ask_mutable (keeping k c) n f) (ask_mutable (keeping m c) n f)
mutable_alike c n typed (a_field p label) h a = along (mutable_behind n p) (mutable_behind n p) (h c a) (alone _)
mutable_alike c n typed (a_constructor p) h a = at_end
mutable_alike c n typed (a_path p) h a = at_end
mutable_alike c n typed a_float h a = at_end
mutable_alike c n typed a_false h a = at_end
mutable_alike c n typed no_expression h a = at_end
mutable_alike c n typed other h a = at_end

pub eset_steady : {k m : Kept} (n : ℕ) (q : Place) (e f : Expression) → SteadyExpression k m e → SteadyExpression k m f → SteadyExpression k m (set_expression n q e f)
eset_steady n q e f s z =
    usual n q other _ _ tt (λ c. behind (behind (behind (behind (s.types c) (λ a. mutable_alike c n e.typed e.form s.forms a)) (λ a. z.types c)) (λ a. alone _)) (λ a. alone _)) (λ c. refl)

-- fields of records
pun_alike : {k m : Kept} (c : Context) (f : Field) (t : Option Typ) → Whole k m (pun_asks (keeping k c) f t) (pun_asks (keeping m c) f t)
pun_alike {k} {m} c f t = by f.label.last refl
  where
    by : (o : Option Tok) → f.label.last ≡ o → Whole k m (pun_asks (keeping k c) f t) (pun_asks (keeping m c) f t)
    by None e = rw (e, pun_asks) at_end
    by (Some x) e = rw (e, pun_asks) (behind (value_alike c f.node 1 (record { qualifiers = []; last = Some x }) (letter c f.node 0)) (λ a. alone _))

field_value_alike : {k m : Kept} (c : Context) (is_found : Bool) (f : Field) (names : List Name) (t : Option Typ) → SteadyField k m f →
    Whole k m (field_value_asks (keeping k c) is_found f names t) (field_value_asks (keeping m c) is_found f names t)
field_value_alike {k} {m} c is_found f names t s = by f.value refl s.value
  where
    once : List Condition
    once = if is_found then ask_once f.node 0 names f.label else []

    by : (o : Option Expression) → f.value ≡ o → IfThere (SteadyExpression k m) o → Whole k m (field_value_asks (keeping k c) is_found f names t) (field_value_asks (keeping m c) is_found f names t)
    by None e absent = rw (e, field_value_asks) (at_treated (behind (alone (if is_found then ask_once f.node 0 names f.label else [])) (λ a. pun_alike c f t)))
    by (Some v) e (there z) = rw (e, field_value_asks) (at_treated (behind (alone (if is_found then ask_once f.node 0 names f.label else [])) (λ a. behind (z.types c) (λ b. alone _))))

fields_alike : {k m : Kept} (c : Context) (n : ℕ) (found : Option Declaration) (fs : List Field) (names : List Name) → Each (SteadyField k m) fs →
    Whole k m (fields_ask (keeping k c) n found fs names) (fields_ask (keeping m c) n found fs names)
fields_alike c n found [] names no_one = at_end
fields_alike {k} {m} c n found (f ∷ fs) names (one_and s each) =
    behind (field_value_alike c (is_some found) f names (field_type (keeping k c) n f.node found f.label) s) (λ a. fields_alike c n found fs (names ++ name_in f.label) each)

record_alike : {k m : Kept} (c : Context) (n : ℕ) (q : Place) (fs : List Field) (xs ys us vs : List Condition) → Each (SteadyField k m) fs → Whole k m xs ys → Whole k m us vs →
    Whole k m (record_asks (keeping k c) n q xs us fs) (record_asks (keeping m c) n q ys vs fs)
record_alike {k} {m} c n q fs xs ys us vs each h g =
    let ls : List Written = labels_of fs in
    let one : (zs : List Condition) → Agreed k m ((xs ++ ask_record (keeping k c) n 1 ls) ++ zs) → kept_record (keeping k c) n 1 ls ≡ kept_record (keeping m c) n 1 ls =
    λ zs a. record_one c n 1 ls (agree_right xs (ask_record (keeping k c) n 1 ls) (agree_left (xs ++ ask_record (keeping k c) n 1 ls) zs a)) in
    behind (behind (behind (behind (behind h (λ a. alone (ask_record (keeping k c) n 1 ls))) (λ a. g))
    (λ a. along (λ o. fields_ask (keeping k c) n o fs []) (λ o. fields_ask (keeping m c) n o fs []) (one us a) (fields_alike c n (kept_record (keeping k c) n 1 ls) fs [] each)))
    (λ a. along (λ o. ask_complete n 3 q o (names_of_labels fs)) (λ o. ask_complete n 3 q o (names_of_labels fs)) (one us (agree_left _ _ a)) (alone _)))
    (λ a. along (is_record (keeping k c) n) (is_record (keeping m c) n) (one us (agree_left _ _ (agree_left _ _ a))) (alone _))

abbrev has_record : Context → ℕ → Expression → Option Declaration → List Condition
has_record c n e o = elim o [ None ↦ [] | Some d ↦ has_type c n 2 e (used_at c n (type_of d)) ]

update_alike : {k m : Kept} (c : Context) (n : ℕ) (e : Expression) (fs : List Field) → SteadyExpression k m e → Each (SteadyField k m) fs → Whole k m (update_asks (keeping k c) n e fs) (update_asks (keeping m c) n e fs)
update_alike {k} {m} c n e fs s each =
    let ls : List Written = labels_of fs in
    let one : Agreed k m (e.typed (keeping k c) ++ ask_record (keeping k c) n 1 ls) → kept_record (keeping k c) n 1 ls ≡ kept_record (keeping m c) n 1 ls =
    λ a. record_one c n 1 ls (agree_right (e.typed (keeping k c)) (ask_record (keeping k c) n 1 ls) a) in
    behind (behind (behind (behind (s.types c) (λ a. alone (ask_record (keeping k c) n 1 ls)))
    (λ a. along (has_record (keeping k c) n e) (has_record (keeping m c) n e) (one a) (alone _)))
    (λ a. along (λ o. fields_ask (keeping k c) n o fs []) (λ o. fields_ask (keeping m c) n o fs []) (one (agree_left _ _ a)) (fields_alike c n (kept_record (keeping k c) n 1 ls) fs [] each)))
    (λ a. along (is_record (keeping k c) n) (is_record (keeping m c) n) (one (agree_left _ _ (agree_left _ _ a))) (alone _))

-- a record by its first part
first_steady : {k m : Kept} (f : Form) (n : ℕ) (value : Option Expression) → IfThere (SteadyExpression k m) value → Each (SteadyField k m) (first_field f n value)
first_steady (a_path p) n value s = one_and (record { value = s }) no_one
first_steady (a_constructor p) n value s = no_one
first_steady a_float n value s = no_one
first_steady a_false n value s = no_one
first_steady (a_field p l) n value s = no_one
first_steady no_expression n value s = no_one
first_steady other n value s = no_one

before_alike : {k m : Kept} (c : Context) (n : ℕ) (e : Expression) (f : Form) → SteadyExpression k m e → Whole k m (before_labels (keeping k c) n e f) (before_labels (keeping m c) n e f)
before_alike c n e (a_path p) s = at_end
before_alike c n e no_expression s = s.types c
before_alike c n e (a_constructor p) s = at_demand (λ a. s.types c)
before_alike c n e a_float s = at_demand (λ a. s.types c)
before_alike c n e a_false s = at_demand (λ a. s.types c)
before_alike c n e (a_field p l) s = at_demand (λ a. s.types c)
before_alike c n e other s = at_demand (λ a. s.types c)

abbrev as_list : Option Expression → List Expression
as_list o = elim o [ None ↦ [] | Some e ↦ e ∷ [] ]

list_typed : {k m : Kept} (o : Option Expression) → IfThere (SteadyExpression k m) o → Each (TypedAlike k m) (as_list o)
list_typed None absent = no_one
list_typed (Some e) (there s) = one_and (record { types = s.types }) no_one

loose_alike : {k m : Kept} (c : Context) (f : Form) (value : Option Expression) → IfThere (SteadyExpression k m) value → Whole k m (loose_value (keeping k c) f value) (loose_value (keeping m c) f value)
loose_alike c (a_path p) value s = at_end
loose_alike c (a_constructor p) value s = all_typed c (as_list value) (list_typed value s)
loose_alike c a_float value s = all_typed c (as_list value) (list_typed value s)
loose_alike c a_false value s = all_typed c (as_list value) (list_typed value s)
loose_alike c (a_field p l) value s = all_typed c (as_list value) (list_typed value s)
loose_alike c no_expression value s = all_typed c (as_list value) (list_typed value s)
loose_alike c other value s = all_typed c (as_list value) (list_typed value s)

abbrev value_in : Context → Option Expression → Bool
value_in c o = elim o [ None ↦ true | Some e ↦ e.is_value c ]

value_in_alike : {k m : Kept} (c : Context) (o : Option Expression) → IfThere (SteadyExpression k m) o → value_in (keeping k c) o ≡ value_in (keeping m c) o
value_in_alike c None absent = refl
value_in_alike c (Some e) (there s) = s.values c

field_values_alike : {k m : Kept} (c : Context) (fs : List Field) → Each (SteadyField k m) fs → all_field_values (keeping k c) fs ≡ all_field_values (keeping m c) fs
field_values_alike c [] no_one = refl
field_values_alike {k} {m} c (f ∷ fs) (one_and s each) =
    and_alike (value_in (keeping k c) f.value) (all_field_values (keeping k c) fs) (value_in (keeping m c) f.value) (all_field_values (keeping m c) fs) (value_in_alike c f.value s.value) (field_values_alike c fs each)

constant_record_alike : {k m : Kept} (c : Context) (fs : List Field) → Each (SteadyField k m) fs → is_constant_record (keeping k c) fs ≡ is_constant_record (keeping m c) fs
constant_record_alike {k} {m} c fs each = ap (λ b. elim (declaration_found c (labels_of fs)) [ None ↦ true | Some d ↦ none_mutable (labels_in d.shape) ] && b) (field_values_alike c fs each)

pub erecord_steady : {k m : Kept} (n : ℕ) (q : Place) (e : Expression) (value : Option Expression) (fs : List Field) → SteadyExpression k m e → IfThere (SteadyExpression k m) value → Each (SteadyField k m) fs →
    SteadyExpression k m (record_expression n q e value fs)
erecord_steady {k} {m} n q e value fs s v each =
    let all : Each (SteadyField k m) (first_field e.form e.node value ++ fs) = each_append (first_steady e.form e.node value v) each in
    usual n q other _ _ tt
    (λ c. record_alike c n q (first_field e.form e.node value ++ fs) (before_labels (keeping k c) n e e.form) (before_labels (keeping m c) n e e.form) (loose_value (keeping k c) e.form value) (loose_value (keeping m c) e.form value)
    all (before_alike c n e e.form s) (loose_alike c e.form value v))
    (λ c. constant_record_alike c (first_field e.form e.node value ++ fs) all)

pub eupdate_steady : {k m : Kept} (n : ℕ) (q : Place) (e : Expression) (fs : List Field) → SteadyExpression k m e → Each (SteadyField k m) fs → SteadyExpression k m (update_expression n q e fs)
eupdate_steady {k} {m} n q e fs s each = usual n q other _ _ tt (λ c. update_alike c n e fs s each)
    (λ c. and_alike (e.is_value (keeping k c)) (is_constant_record (keeping k c) fs) (e.is_value (keeping m c)) (is_constant_record (keeping m c) fs) (s.values c) (constant_record_alike c fs each))

assert_alike : {k m : Kept} (c : Context) (n : ℕ) (e : Expression) (f : Form) → SteadyExpression k m e → Whole k m (assert_asks (keeping k c) n e f) (assert_asks (keeping m c) n e f)
assert_alike c n e a_false s = s.types c
assert_alike c n e (a_constructor p) s = behind (behind (s.types c) (λ a. alone _)) (λ a. alone _)
assert_alike c n e (a_path p) s = behind (behind (s.types c) (λ a. alone _)) (λ a. alone _)
assert_alike c n e a_float s = behind (behind (s.types c) (λ a. alone _)) (λ a. alone _)
assert_alike c n e (a_field p l) s = behind (behind (s.types c) (λ a. alone _)) (λ a. alone _)
assert_alike c n e no_expression s = behind (behind (s.types c) (λ a. alone _)) (λ a. alone _)
assert_alike c n e other s = behind (behind (s.types c) (λ a. alone _)) (λ a. alone _)

pub eassert_steady : {k m : Kept} (n : ℕ) (q : Place) (e : Expression) → SteadyExpression k m e → SteadyExpression k m (assert_expression n q e)
eassert_steady n q e s = usual n q other _ _ tt (λ c. assert_alike c n e e.form s) (λ c. refl)

pub eif_steady : {k m : Kept} (n : ℕ) (q : Place) (e f : Expression) (g : Option Expression) → SteadyExpression k m e → SteadyExpression k m f → IfThere (SteadyExpression k m) g → SteadyExpression k m (if_expression n q e f g)
eif_steady n q e f None s z absent = usual n q other _ _ tt (λ c. behind (behind (behind (behind (s.types c) (λ a. alone _)) (λ a. z.types c)) (λ a. alone _)) (λ a. alone _)) z.values
eif_steady {k} {m} n q e f (Some g) s z (there w) =
    usual n q other _ _ tt (λ c. behind (behind (behind (behind (behind (s.types c) (λ a. alone _)) (λ a. z.types c)) (λ a. w.types c)) (λ a. alone _)) (λ a. alone _))
    (λ c. and_alike (f.is_value (keeping k c)) (g.is_value (keeping k c)) (f.is_value (keeping m c)) (g.is_value (keeping m c)) (z.values c) (w.values c))

pub eseq_steady : {k m : Kept} (n : ℕ) (q : Place) (es : List Expression) → Each (SteadyExpression k m) es → SteadyExpression k m (sequence_expression n q es)
eseq_steady n q es each = usual n q other _ _ tt (λ c. behind (all_typed c es (typed_too es each)) (λ a. alone _)) (λ c. refl)

pub ewhile_steady : {k m : Kept} (n : ℕ) (q : Place) (e f : Expression) → SteadyExpression k m e → SteadyExpression k m f → SteadyExpression k m (while_expression n q e f)
ewhile_steady n q e f s z = usual n q other _ _ tt (λ c. behind (behind (behind (s.types c) (λ a. alone _)) (λ a. z.types c)) (λ a. alone _)) (λ c. refl)

loop_one : {k m : Kept} (x : Option Tok) → Each (SameName k m) (loop_names x)
loop_one None = no_one
loop_one (Some t) = one_and (record { one = λ c. refl }) no_one

pub efor_steady : {k m : Kept} (n : ℕ) (q : Place) (x : Option Tok) (e f g : Expression) → SteadyExpression k m e → SteadyExpression k m f → SteadyExpression k m g → SteadyExpression k m (for_expression n q x e f g)
efor_steady n q x e f g s z w = usual n q other _ _ tt
    (λ c. behind (behind (behind (behind (behind (s.types c) (λ a. alone _)) (λ a. z.types c)) (λ a. alone _)) (λ a. in_scope g.typed c (loop_names x) (loop_one x) w.types)) (λ a. alone _)) (λ c. refl)

-- cases
guard_alike : {k m : Kept} (n j : ℕ) (g : Option Expression) → IfThere (SteadyExpression k m) g → (c : Context) → Whole k m (guard_asks (keeping k c) n j g) (guard_asks (keeping m c) n j g)
guard_alike n j None absent c = at_end
guard_alike n j (Some e) (there s) c = behind (s.types c) (λ a. alone _)

case_alike : {k m : Kept} (c : Context) (n j : ℕ) (subject : Typ) (result : Option Typ) (x : Case) → SteadyCase k m x → Whole k m (case_asks (keeping k c) n j subject result x) (case_asks (keeping m c) n j subject result x)
case_alike {k} {m} c n j subject result x s =
    at_treated (behind (behind (behind (behind (s.pattern.matches c []) (λ a. alone (ask n j x.pattern.at (equal (type_at (keeping k c) x.pattern.node) subject))))
    (λ a. in_scope (λ d. guard_asks d n (j + 1) x.guard) c x.pattern.names s.pattern.binds (guard_alike n (j + 1) x.guard s.guard)))
    (λ a. in_scope x.body.typed c x.pattern.names s.pattern.binds s.body.types)) (λ a. alone _))

later_alike : {k m : Kept} (c : Context) (n j : ℕ) (subject result : Typ) (xs : List Case) → Each (SteadyCase k m) xs → Whole k m (later_cases (keeping k c) n j subject result xs) (later_cases (keeping m c) n j subject result xs)
later_alike c n j subject result [] no_one = at_end
later_alike c n j subject result (x ∷ xs) (one_and s each) = behind (case_alike c n j subject (Some result) x s) (λ a. later_alike c n (j + 3) subject result xs each)

cases_alike : {k m : Kept} (c : Context) (n : ℕ) (subject : Typ) (xs : List Case) → Each (SteadyCase k m) xs → Whole k m (cases_ask (keeping k c) n subject xs) (cases_ask (keeping m c) n subject xs)
cases_alike c n subject [] no_one = at_end
cases_alike c n subject (x ∷ xs) (one_and s each) = behind (case_alike c n 0 subject None x s) (λ a. later_alike c n 3 subject (type_at c x.body.node) xs each)

case_values_alike : {k m : Kept} (c : Context) (xs : List Case) → Each (SteadyCase k m) xs → cases_are_values (keeping k c) xs ≡ cases_are_values (keeping m c) xs
case_values_alike c [] no_one = refl
case_values_alike {k} {m} c (x ∷ xs) (one_and s each) =
    and_alike (not (is_some x.guard) && x.body.is_value (keeping k c)) (cases_are_values (keeping k c) xs) (not (is_some x.guard) && x.body.is_value (keeping m c)) (cases_are_values (keeping m c) xs)
    (ap (λ b. not (is_some x.guard) && b) (s.body.values c)) (case_values_alike c xs each)

pub ematch_steady : {k m : Kept} (n : ℕ) (q : Place) (e : Expression) (xs : List Case) → SteadyExpression k m e → Each (SteadyCase k m) xs → SteadyExpression k m (match_expression n q e xs)
ematch_steady {k} {m} n q e xs s each = usual n q other _ _ tt (λ c. behind (behind (s.types c) (λ a. cases_alike c n (type_at c e.node) xs each)) (λ a. alone _))
    (λ c. and_alike (e.is_value (keeping k c)) (cases_are_values (keeping k c) xs) (e.is_value (keeping m c)) (cases_are_values (keeping m c) xs) (s.values c) (case_values_alike c xs each))

pub etry_steady : {k m : Kept} (n : ℕ) (q : Place) (e : Expression) (xs : List Case) → SteadyExpression k m e → Each (SteadyCase k m) xs → SteadyExpression k m (try_expression n q e xs)
etry_steady n q e xs s each = usual n q other _ _ tt (λ c. behind (behind (s.types c) (λ a. later_alike c n 0 exn_type (type_at c e.node) xs each)) (λ a. alone _)) (λ c. refl)

pub efunction_steady : {k m : Kept} (n : ℕ) (q : Place) (xs : List Case) → Each (SteadyCase k m) xs → SteadyExpression k m (function_expression n q xs)
efunction_steady n q xs each = usual n q other _ _ tt (λ c. behind (cases_alike c n (letter c n 0) xs each) (λ a. alone _)) (λ c. refl)

pub efun_steady : {k m : Kept} (n : ℕ) (q : Place) (ps : List Pattern) (e : Expression) → Each (SteadyPattern k m) ps → SteadyExpression k m e → SteadyExpression k m (fun_expression n q ps e)
efun_steady n q ps e each s = usual n q other _ _ tt
    (λ c. behind (behind (apart_alike c ps each) (λ a. in_scope e.typed c (all_names ps) (all_names_one ps each) s.types)) (λ a. alone _)) (λ c. refl)

all_generalise_alike : {k m : Kept} (c : Context) (bs : List Binding) → Each (SteadyBinding k m) bs → all_generalise (keeping k c) bs ≡ all_generalise (keeping m c) bs
all_generalise_alike c [] no_one = refl
all_generalise_alike {k} {m} c (b ∷ bs) (one_and s each) =
    and_alike (generalises (keeping k c) b) (all_generalise (keeping k c) bs) (generalises (keeping m c) b) (all_generalise (keeping m c) bs) (generalises_alike c b s) (all_generalise_alike c bs each)

pub elet_steady : {k m : Kept} (n : ℕ) (q : Place) (is_rec : Bool) (bs : List Binding) (e : Expression) → Each (SteadyBinding k m) bs → SteadyExpression k m e → SteadyExpression k m (let_expression n q is_rec bs e)
elet_steady {k} {m} n q is_rec bs e each s = usual n q other _ _ tt (λ c. behind (behind (bindings_alike c is_rec bs each) (λ a. in_let e.typed c bs each s.types)) (λ a. alone _))
    (λ c. and_alike (all_generalise (keeping k c) bs) (e.is_value (keeping k c)) (all_generalise (keeping m c) bs) (e.is_value (keeping m c)) (all_generalise_alike c bs each) (s.values c))
