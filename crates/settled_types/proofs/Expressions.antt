-- What expressions ask holds of what is left of types.
use Rattle.std.proofs.Common.{◌≡◌, ℕ, ◌+◌, Bool, true, false, List, [], ◌∷◌, ◌++◌, codes, Option, Some, None, refl, sym, ap, if◌then◌else◌}
use Rattle.token_model.specs.Kinds.{Tok, Kind, upper}
use Rattle.tree_model.specs.Trees.{Place}
use Rattle.type_model.specs.Types.{Typ, Arrow, Tuple}
use Rattle.type_model.specs.Schemes.{Scheme}
use Rattle.signature_model.specs.Declarations.{Name, Declaration, Label, type_of}
use Rattle.signature_model.specs.Components.{same_name}
use Rattle.signature_model.specs.Entries.{Referent, a_value, an_exception, a_label, a_type, a_module, a_module_type, label_kind}
use Rattle.signature_model.specs.Entries as entries
use Rattle.signature_model.specs.Lookups.{Found, an_entry, a_hole, nothing}
use Rattle.typing_model.specs.Demands.{value_word, label_word, site, equal, test, not_mutable, Condition, instance}
use Rattle.typing_model.specs.Contexts.{Context, type_at, letter, ask}
use Rattle.typing_model.specs.Parts.{Written, Form, a_constructor, a_path, a_float, a_false, a_field, no_expression, other, Expression, Pattern, TypeExpression, Binding, Case, Field, no_expression_at, place_of, last_of}
use Rattle.typing_model.specs.Names.{names_of, Built, referent_of, then_by, scheme_in, used_at}
use Rattle.typing_model.specs.Records.{name_in, ask_complete}
use Rattle.typing_model.specs.BuiltIns.{exn_type}
use Rattle.typing_model.specs.Patterns.{built_by, ask_all, behind_first, kept_record, all_names}
use Rattle.typing_model.specs.Expressions.{expression, typed_all, is_of, has_type, value_asks, name_expression, constructor_expression, path_expression, constant_expression, hole_expression, parenthesised, begun, first_type, each_has, list_expression, cons_expression, tuple_expression, applied_from, behind_constructor, behind_unbound, behind_argument, constructor_applied, application_asks, application, operator_applied, name_of, infix_expression, prefix_expression, under_sign, minus_asks, minus_expression, label_found, field_asks, field_expression, ask_mutable, set_expression, pun_asks, field_value_asks, is_some, fields_ask, labels_of, names_of_labels, is_record, record_asks, update_asks, first_field, before_labels, loose_value, record_expression, update_expression, assert_asks, assert_expression, if_expression, sequence_expression, while_expression, loop_names, for_expression, guard_asks, case_asks, later_cases, cases_ask, first_body, match_expression, try_expression, function_expression, fun_expression, let_expression}
use Rattle.typing_laws.proofs.Steady.{Each, no_one, one_and, each_append, IfThere, absent, there}
use Rattle.demand_laws.proofs.Alike.{Both, nones, somes}
use Rattle.demand_laws.proofs.Bindings.{IsMutableAlike, IsFormAlike}
use Rattle.settled_types.specs.Made.{Constructors, is_made_of, referent_made_of}
use Rattle.settled_types.proofs.Erasing.{erase_types, erase_made}
use Rattle.settled_types.proofs.Found.{ErasedScheme, ErasedFound, two_values, one_thing, IsMade, value_found}
use Rattle.settled_types.proofs.Goes.{rest, Goes, nothing_goes, once_goes, complete_goes, behind, at_treated, at_equal, at_test, at_instance, same_one, equal_one, along, at_bound, at_value, int_left, float_left, unit_left, bool_left, exn_left, list_left, Pair, left, right, two, RestName, more}
use Rattle.settled_types.proofs.Uses.{IsDeclared, IsLabelled, label_labelled, kept_declared, used_left, type_made, BothThere, neither, both, fields_there, built_one, label_one, kept_record_one}
use Rattle.settled_types.proofs.Types.{GoesType}
use Rattle.settled_types.proofs.Patterns.{GoesPattern, names_all, constant_goes, constructor_alone_goes, applied_goes, ask_record_goes}
use Rattle.settled_types.proofs.Bindings.{GoesTyped, GoesExpression, GoesBinding, apart_goes, arrows_left, bindings_go, in_let}

pub record GoesCase (w : Constructors) (a : Case) : Type 0 where
  pub pattern : GoesPattern w a.pattern
  pub guard : IfThere (GoesTyped w) a.guard
  pub body : GoesTyped w a.body

pub record GoesField (w : Constructors) (f : Field) : Type 0 where
  pub value : IfThere (GoesTyped w) f.value

pub no_expression_goes : (w : Constructors) (n : ℕ) (q : Place) → GoesTyped w (no_expression_at n q)
no_expression_goes w n q = record { types = λ c. nothing_goes; negates = λ c. nothing_goes }

-- an expression of the usual kind
usual : (w : Constructors) (n : ℕ) (q : Place) (f : Form) (typed : Context → List Condition) (is_value : Context → Bool) → ((c : Pair w) → Goes w (typed (left c)) (typed (right c))) → GoesTyped w (expression n q f typed is_value)
usual w n q f typed is_value h = record { types = h; negates = h }

all_typed : {w : Constructors} (c : Pair w) (es : List Expression) → Each (GoesTyped w) es → Goes w (typed_all (left c) es) (typed_all (right c) es)
all_typed c [] no_one = nothing_goes
all_typed c (e ∷ es) (one_and s each) = behind (s.types c) (all_typed c es each)

-- a name: that it is bound, and then an instance of what is found
abbrev use_behind : Typ → Option Scheme → List Condition
use_behind t o = elim o [ None ↦ [] | Some s ↦ instance s t ∷ [] ]

abbrev scheme_of : Bool → Found → Option Scheme
scheme_of b f = if b then then_by (referent_of f) scheme_in else None

-- the scheme of a value that is made is its own
own_scheme : (w : Constructors) (s : Scheme) → is_made_of w.all s.body ≡ true → ErasedScheme w.all s s
own_scheme w s h = record { body = sym (erase_made w.all s.body h); bound = λ v e. e }

of_referent : (w : Constructors) (t u : Typ) → u ≡ rest w t → (r : Referent) → referent_made_of w.all r ≡ true → Goes w (use_behind t (scheme_in r)) (use_behind u (scheme_in r))
of_referent w t u e (a_value s) h = at_instance w (own_scheme w s h) e nothing_goes
of_referent w t u e (entries.a_constructor d k) h = nothing_goes
of_referent w t u e (an_exception o) h = nothing_goes
of_referent w t u e (a_label d l) h = nothing_goes
of_referent w t u e (a_type d) h = nothing_goes
of_referent w t u e (a_module s) h = nothing_goes
of_referent w t u e (a_module_type x) h = nothing_goes

made_use : (w : Constructors) (t u : Typ) → u ≡ rest w t → (f : Found) → IsMade w.all f → Goes w (use_behind t (scheme_of true f)) (use_behind u (scheme_of true f))
made_use w t u e (an_entry x) h = of_referent w t u e x.stands_for h
made_use w t u e a_hole h = nothing_goes
made_use w t u e nothing h = nothing_goes

use_goes : (w : Constructors) (t u : Typ) → u ≡ rest w t → (b : Bool) {f g : Found} → ErasedFound w.all f g → Goes w (use_behind t (scheme_of b f)) (use_behind u (scheme_of b g))
use_goes w t u e false h = nothing_goes
use_goes w t u e true (two_values h) = at_instance w h e nothing_goes
use_goes w t u e true (one_thing {f = f} h) = made_use w t u e f h

pub value_goes : {w : Constructors} (c : Pair w) (n j : ℕ) (p : Written) (t u : Typ) → u ≡ rest w t → Goes w (value_asks (left c) n j p t) (value_asks (right c) n j p u)
value_goes {w} c n j p t u is = by p.last refl
  where
    by : (o : Option Tok) → p.last ≡ o → Goes w (value_asks (left c) n j p t) (value_asks (right c) n j p u)
    by None e = rw (e, value_asks) nothing_goes
    by (Some x) e = rw (e, value_asks) (at_value c n j value_word p x (use_goes w t u is (c.kept (site n j)) (value_found w.all c.names (names_of p.qualifiers) x.name)))

pub name_goes : (w : Constructors) (n : ℕ) (q : Place) (p : Written) → GoesTyped w (name_expression n q p)
name_goes w n q p = usual w n q _ _ _ (λ c. value_goes c n 0 p (type_at (left c) n) (type_at (right c) n) refl)

pub econ_goes : (w : Constructors) (n : ℕ) (q : Place) (p : Written) → GoesTyped w (constructor_expression n q p)
econ_goes w n q p = usual w n q _ _ _ (λ c. constructor_alone_goes c n p)

pub path_goes : (w : Constructors) (n : ℕ) (q : Place) (p : Written) → GoesTyped w (path_expression n q p)
path_goes w n q p = by p.last refl
  where
    of_kind : (t : Tok) → p.last ≡ Some t → (s : Kind) → t.kind ≡ s → GoesTyped w (path_expression n q p)
    of_kind t e upper f = rw (e, f, path_expression) (econ_goes w n q p)
    of_kind t e _ f = rw (e, f, path_expression) (name_goes w n q p)

    by : (o : Option Tok) → p.last ≡ o → GoesTyped w (path_expression n q p)
    by None e = rw (e, path_expression) (usual w n q _ _ _ (λ c. nothing_goes))
    by (Some t) e = of_kind t e t.kind refl

pub econst_goes : (w : Constructors) (n : ℕ) (q : Place) (t : Option Tok) → GoesTyped w (constant_expression n q t)
econst_goes w n q t = record { types = λ c. constant_goes false n t c; negates = λ c. constant_goes true n t c }

pub hole_goes : (w : Constructors) (n : ℕ) (q : Place) → GoesTyped w (hole_expression n q)
hole_goes w n q = usual w n q _ _ _ (λ c. nothing_goes)

pub eparen_goes : (w : Constructors) (n : ℕ) (q : Place) (e : Expression) (t : Option TypeExpression) → GoesTyped w e → IfThere (GoesType w) t → GoesTyped w (parenthesised n q e t)
eparen_goes w n q e None s absent = usual w n q _ _ _ (λ c. behind (s.types c) (same_one w refl refl))
eparen_goes w n q e (Some t) s (there r) = usual w n q _ _ _ (λ c. behind (behind (behind (s.types c) (r.reads c)) (equal_one w refl refl)) (same_one w refl refl))

pub ebegin_goes : (w : Constructors) (n : ℕ) (q : Place) (e : Option Expression) → IfThere (GoesTyped w) e → GoesTyped w (begun n q e)
ebegin_goes w n q None absent = usual w n q _ _ _ (λ c. same_one w refl (unit_left w))
ebegin_goes w n q (Some e) (there s) = usual w n q _ _ _ (λ c. behind (s.types c) (same_one w refl refl))

-- expressions that have one type
each_has_goes : {w : Constructors} (c : Pair w) (n j : ℕ) (t u : Typ) → u ≡ rest w t → (es : List Expression) → Goes w (ask_all n j (each_has (left c) t es)) (ask_all n j (each_has (right c) u es))
each_has_goes c n j t u e [] = nothing_goes
each_has_goes {w} c n j t u e (x ∷ es) = at_equal w refl e (each_has_goes c n (j + 1) t u e es)

first_left : {w : Constructors} (c : Pair w) (n : ℕ) (es : List Expression) → first_type (right c) n es ≡ rest w (first_type (left c) n es)
first_left c n [] = refl
first_left c n (e ∷ es) = refl

pub elist_goes : (w : Constructors) (n : ℕ) (q : Place) (es : List Expression) → Each (GoesTyped w) es → GoesTyped w (list_expression n q es)
elist_goes w n q es each = usual w n q _ _ _
    (λ c. behind (behind (all_typed c es each) (each_has_goes c n 0 (first_type (left c) n es) (first_type (right c) n es) (first_left c n es) (behind_first es)))
    (same_one w refl (list_left w (first_type (left c) n es) (first_type (right c) n es) (first_left c n es))))

pub econs_goes : (w : Constructors) (n : ℕ) (q : Place) (e f : Expression) → GoesTyped w e → GoesTyped w f → GoesTyped w (cons_expression n q e f)
econs_goes w n q e f s z = usual w n q _ _ _ (λ c.
    behind (behind (behind (s.types c) (z.types c)) (equal_one w refl (list_left w (type_at (left c) e.node) (type_at (right c) e.node) refl))) (same_one w refl (list_left w (type_at (left c) e.node) (type_at (right c) e.node) refl)))

pub etuple_goes : (w : Constructors) (n : ℕ) (q : Place) (es : List Expression) → Each (GoesTyped w) es → GoesTyped w (tuple_expression n q es)
etuple_goes w n q es each = usual w n q _ _ _ (λ c. behind (all_typed c es each) (same_one w refl (ap Tuple (sym (erase_types w.all (λ (e : Expression). type_at (left c) e.node) es)))))

-- a head and its arguments
applied_from_goes : {w : Constructors} (c : Pair w) (n j i : ℕ) (q : Place) (h g : Typ) → g ≡ rest w h → (es : List Expression) → Each (GoesTyped w) es → Goes w (applied_from (left c) n j i q h es) (applied_from (right c) n j i q g es)
applied_from_goes {w} c n j i q h g is [] no_one = same_one w refl is
applied_from_goes {w} c n j i q h g is (e ∷ es) (one_and s each) =
    at_equal w is refl (behind (behind (s.types c) (equal_one w refl refl)) (applied_from_goes c n (j + 2) (i + 2) q (letter (left c) n (i + 1)) (letter (right c) n (i + 1)) refl es each))

unbound_goes : {w : Constructors} (c : Pair w) (n : ℕ) (head : Expression) (es : List Expression) → Each (GoesTyped w) es → Goes w (behind_unbound (left c) n head es) (behind_unbound (right c) n head es)
unbound_goes {w} c n head [] no_one = same_one w refl refl
unbound_goes c n head (e ∷ es) each = all_typed c (e ∷ es) each

behind_constructor_goes : {w : Constructors} (c : Pair w) (n : ℕ) (head : Expression) (es : List Expression) → Each (GoesTyped w) es → Goes w (behind_constructor (left c) n head es) (behind_constructor (right c) n head es)
behind_constructor_goes {w} c n head [] no_one = same_one w refl refl
behind_constructor_goes c n head (e ∷ es) each = applied_from_goes c n 3 0 head.at (type_at (left c) head.node) (type_at (right c) head.node) refl (e ∷ es) each

argument_goes : {w : Constructors} (c : Pair w) (n : ℕ) (head : Expression) (es : List Expression) (o : Option Built) → Each (GoesTyped w) es → Goes w (behind_argument (left c) n head es o) (behind_argument (right c) n head es o)
argument_goes c n head es None each = unbound_goes c n head es each
argument_goes c n head es (Some b) each = behind_constructor_goes c n head es each

constructor_applied_goes : {w : Constructors} (c : Pair w) (n : ℕ) (p : Written) (head : Expression) (es : List Expression) → GoesTyped w head → Each (GoesTyped w) es → Goes w (constructor_applied (left c) n p head es) (constructor_applied (right c) n p head es)
constructor_applied_goes c n p head [] h no_one = h.types c
constructor_applied_goes c n p head (e ∷ es) h (one_and s each) =
    behind (applied_goes c n p head.node (head.node ∷ []) (e.typed (left c)) (e.typed (right c)) 2 e.at (type_at (left c) e.node) (type_at (right c) e.node) refl (s.types c))
    (along (behind_argument (left c) n head es) (behind_argument (right c) n head es) (then_alike p.last (built_one c n p)) (argument_goes c n head es (then_by p.last (built_by (left c) n p)) each))
  where
    then_alike : (o : Option Tok) → ((t : Tok) → built_by (left c) n p t ≡ built_by (right c) n p t) → then_by o (built_by (left c) n p) ≡ then_by o (built_by (right c) n p)
    then_alike None f = refl
    then_alike (Some t) f = f t

head_goes : {w : Constructors} (c : Pair w) (n : ℕ) (head : Expression) (es : List Expression) → GoesTyped w head → Each (GoesTyped w) es →
    Goes w (head.typed (left c) ++ applied_from (left c) n 0 0 head.at (type_at (left c) head.node) es) (head.typed (right c) ++ applied_from (right c) n 0 0 head.at (type_at (right c) head.node) es)
head_goes c n head es h each = behind (h.types c) (applied_from_goes c n 0 0 head.at (type_at (left c) head.node) (type_at (right c) head.node) refl es each)

application_goes : {w : Constructors} (c : Pair w) (n : ℕ) (head : Expression) (es : List Expression) (f : Form) → GoesTyped w head → Each (GoesTyped w) es → Goes w (application_asks (left c) n head es f) (application_asks (right c) n head es f)
application_goes c n head es (a_constructor p) h each = constructor_applied_goes c n p head es h each
application_goes c n head es (a_path p) h each = head_goes c n head es h each
application_goes c n head es a_float h each = head_goes c n head es h each
application_goes c n head es a_false h each = head_goes c n head es h each
application_goes c n head es (a_field p l) h each = head_goes c n head es h each
application_goes c n head es no_expression h each = head_goes c n head es h each
application_goes c n head es other h each = head_goes c n head es h each

pub eapp_goes : (w : Constructors) (n : ℕ) (q : Place) (head : Expression) (es : List Expression) → GoesTyped w head → Each (GoesTyped w) es → GoesTyped w (application n q head es)
eapp_goes w n q head es s each = usual w n q _ _ _ (λ c. application_goes c n head es head.form s each)

operator_goes : {w : Constructors} (c : Pair w) (n : ℕ) (t : Option Tok) (x : Name) (es : List Expression) → Each (GoesTyped w) es → Goes w (operator_applied (left c) n t x es) (operator_applied (right c) n t x es)
operator_goes c n None x es each = all_typed c es each
operator_goes c n (Some t) x es each =
    behind (value_goes c n 0 (record { qualifiers = []; last = Some (record t { name = x }) }) (letter (left c) n 0) (letter (right c) n 0) refl) (applied_from_goes c n 1 1 (place_of t) (letter (left c) n 0) (letter (right c) n 0) refl es each)

pub infix_goes : (w : Constructors) (n : ℕ) (q : Place) (t : Option Tok) (e f : Expression) → GoesTyped w e → GoesTyped w f → GoesTyped w (infix_expression n q t e f)
infix_goes w n q t e f s z = usual w n q _ _ _ (λ c. operator_goes c n t (name_of t) (e ∷ f ∷ []) (one_and s (one_and z no_one)))

pub prefix_goes : (w : Constructors) (n : ℕ) (q : Place) (t : Option Tok) (e : Expression) → GoesTyped w e → GoesTyped w (prefix_expression n q t e)
prefix_goes w n q t e s = usual w n q _ _ _ (λ c. operator_goes c n t (name_of t) (e ∷ []) (one_and s no_one))

under_sign_goes : (w : Constructors) (t : Option Tok) (e : Expression) → GoesTyped w e → GoesTyped w (under_sign t e)
under_sign_goes w t e s = by (same_name (name_of t) (codes "-"))
  where
    by : (b : Bool) → GoesTyped w (if b then record e { typed = e.negated } else e)
    by true = record { types = s.negates; negates = s.negates }
    by false = s

signed_goes : {w : Constructors} (c : Pair w) (n : ℕ) (t : Option Tok) (e : Expression) → GoesTyped w e → Goes w (operator_applied (left c) n t (codes "~" ++ name_of t) (under_sign t e ∷ [])) (operator_applied (right c) n t (codes "~" ++ name_of t) (under_sign t e ∷ []))
signed_goes {w} c n t e s = operator_goes c n t (codes "~" ++ name_of t) (under_sign t e ∷ []) (one_and (under_sign_goes w t e s) no_one)

minus_goes : {w : Constructors} (c : Pair w) (n : ℕ) (t : Option Tok) (e : Expression) (f : Form) → GoesTyped w e → Goes w (minus_asks (left c) n t e f) (minus_asks (right c) n t e f)
minus_goes {w} c n t e a_float s = behind (s.negates c) (same_one w refl (float_left w))
minus_goes c n t e (a_constructor p) s = signed_goes c n t e s
minus_goes c n t e (a_path p) s = signed_goes c n t e s
minus_goes c n t e a_false s = signed_goes c n t e s
minus_goes c n t e (a_field p l) s = signed_goes c n t e s
minus_goes c n t e no_expression s = signed_goes c n t e s
minus_goes c n t e other s = signed_goes c n t e s

pub eneg_goes : (w : Constructors) (n : ℕ) (q : Place) (t : Option Tok) (e : Expression) → GoesTyped w e → GoesTyped w (minus_expression n q t e)
eneg_goes w n q t e s = usual w n q _ _ _ (λ c. minus_goes c n t e e.form s)

-- a field
abbrev field_behind : Context → ℕ → Expression → Option (Declaration × Label) → List Condition
field_behind c n e o = elim o [ None ↦ [] | Some (d, l) ↦ has_type c n 1 e (used_at c n (type_of d)) ++ is_of c n (used_at c n l.body) ]

field_left : {w : Constructors} (c : Pair w) (n : ℕ) (e : Expression) (o : Option (Declaration × Label)) → IsLabelled w o → Goes w (field_behind (left c) n e o) (field_behind (right c) n e o)
field_left c n e None h = nothing_goes
field_left {w} c n e (Some (d, l)) h = behind (equal_one w refl (used_left c n (type_of d) (type_made w d h.0))) (same_one w refl (used_left c n l.body h.1))

if_labelled : (w : Constructors) (b : Bool) (o : Option (Declaration × Label)) → IsLabelled w o → IsLabelled w (if b then o else None)
if_labelled w true o h = h
if_labelled w false o h = tt

field_goes : {w : Constructors} (c : Pair w) (n : ℕ) (e : Expression) (p : Written) → GoesTyped w e → Goes w (field_asks (left c) n e p) (field_asks (right c) n e p)
field_goes {w} c n e p s = by p.last refl
  where
    by : (o : Option Tok) → p.last ≡ o → Goes w (field_asks (left c) n e p) (field_asks (right c) n e p)
    by None g = rw (g, field_asks) (s.types c)
    by (Some t) g = rw (g, field_asks) (behind (behind (s.types c) (at_bound c n 0 label_kind label_word p t refl nothing_goes))
        (along (field_behind (left c) n e) (field_behind (right c) n e) (ap (λ o. if c.kept (site n 0) then o else None) (label_one c p))
        (field_left c n e (if c.kept (site n 0) then label_found (left c) p else None) (if_labelled w (c.kept (site n 0)) (label_found (left c) p) (label_labelled c p)))))

pub efield_goes : (w : Constructors) (n : ℕ) (q : Place) (e : Expression) (p : Written) → GoesTyped w e → GoesTyped w (field_expression n q e p)
efield_goes w n q e p s = usual w n q _ _ _ (λ c. field_goes c n e p s)

abbrev mutable_behind : ℕ → Written → Option Label → List Condition
mutable_behind n p o = elim o [ None ↦ [] | Some l ↦ elim p.last [ None ↦ [] | Some t ↦ ask n 0 (place_of t) (test (not_mutable t.name) l.is_mutable) ] ]

mutable_one : {w : Constructors} (n : ℕ) (p : Written) {o r : Option Label} → Both IsMutableAlike o r → Goes w (mutable_behind n p o) (mutable_behind n p r)
mutable_one {w} n p nones = nothing_goes
mutable_one {w} n p (somes {x = l} {y = m} h) = by p.last
  where
    by : (t : Option Tok) → Goes w (elim t [ None ↦ [] | Some t ↦ ask n 0 (place_of t) (test (not_mutable t.name) l.is_mutable) ]) (elim t [ None ↦ [] | Some t ↦ ask n 0 (place_of t) (test (not_mutable t.name) m.is_mutable) ])
    by None = nothing_goes
    by (Some t) = at_test h.one nothing_goes

mutable_goes : {w : Constructors} (c : Pair w) (n : ℕ) (f : Form) → IsFormAlike f → Goes w (ask_mutable (left c) n f) (ask_mutable (right c) n f)
mutable_goes c n (a_field p label) h = mutable_one n p (h (two c))
mutable_goes c n (a_constructor p) h = nothing_goes
mutable_goes c n (a_path p) h = nothing_goes
mutable_goes c n a_float h = nothing_goes
mutable_goes c n a_false h = nothing_goes
mutable_goes c n no_expression h = nothing_goes
mutable_goes c n other h = nothing_goes

pub eset_goes : (w : Constructors) (n : ℕ) (q : Place) (e f : Expression) → GoesExpression w e → GoesTyped w f → GoesTyped w (set_expression n q e f)
eset_goes w n q e f s z = usual w n q _ _ _ (λ c. behind (behind (behind (behind (s.goes.types c) (mutable_goes c n e.form s.alike.forms)) (z.types c)) (equal_one w refl refl)) (same_one w refl (unit_left w)))

-- fields of records
abbrev pun_has : Context → Field → Tok → Option Typ → List Condition
pun_has c f x o = elim o [ None ↦ [] | Some t ↦ ask f.node 2 (place_of x) (equal (letter c f.node 0) t) ]

pun_goes : {w : Constructors} (c : Pair w) (f : Field) {t u : Option Typ} → BothThere w t u → Goes w (pun_asks (left c) f t) (pun_asks (right c) f u)
pun_goes {w} c f {t} {u} h = by f.label.last refl
  where
    has : (x : Tok) {t u : Option Typ} → BothThere w t u → Goes w (pun_has (left c) f x t) (pun_has (right c) f x u)
    has x neither = nothing_goes
    has x (both e) = equal_one w refl e

    by : (o : Option Tok) → f.label.last ≡ o → Goes w (pun_asks (left c) f t) (pun_asks (right c) f u)
    by None e = rw (e, pun_asks) nothing_goes
    by (Some x) e = rw (e, pun_asks) (behind (value_goes c f.node 1 (record { qualifiers = []; last = Some x }) (letter (left c) f.node 0) (letter (right c) f.node 0) refl) (has x h))

-- that the value of a field has a type, if there is one
abbrev value_has : Context → Field → Expression → Option Typ → List Condition
value_has c f e o = elim o [ None ↦ [] | Some t ↦ has_type c f.node 2 e t ]

field_value_goes : {w : Constructors} (c : Pair w) (is_found : Bool) (f : Field) (names : List Name) {t u : Option Typ} → BothThere w t u → GoesField w f →
    Goes w (field_value_asks (left c) is_found f names t) (field_value_asks (right c) is_found f names u)
field_value_goes {w} c is_found f names {t} {u} h s = by f.value refl s.value
  where
    has : (e : Expression) {t u : Option Typ} → BothThere w t u → Goes w (value_has (left c) f e t) (value_has (right c) f e u)
    has e neither = nothing_goes
    has e (both g) = equal_one w refl g

    by : (o : Option Expression) → f.value ≡ o → IfThere (GoesTyped w) o → Goes w (field_value_asks (left c) is_found f names t) (field_value_asks (right c) is_found f names u)
    by None e absent = rw (e, field_value_asks) (at_treated (behind (once_goes is_found f.node 0 names f.label) (pun_goes c f h)))
    by (Some v) e (there z) = rw (e, field_value_asks) (at_treated (behind (once_goes is_found f.node 0 names f.label) (behind (z.types c) (has v h))))

fields_go : {w : Constructors} (c : Pair w) (n : ℕ) (found : Option Declaration) → IsDeclared w found → (fs : List Field) (names : List Name) → Each (GoesField w) fs →
    Goes w (fields_ask (left c) n found fs names) (fields_ask (right c) n found fs names)
fields_go c n found made [] names no_one = nothing_goes
fields_go c n found made (f ∷ fs) names (one_and s each) =
    behind (field_value_goes c (is_some found) f names (fields_there c n f.node found f.label made) s) (fields_go c n found made fs (names ++ name_in f.label) each)

record_left : {w : Constructors} (c : Pair w) (n : ℕ) (o : Option Declaration) → IsDeclared w o → Goes w (is_record (left c) n o) (is_record (right c) n o)
record_left c n None made = nothing_goes
record_left {w} c n (Some d) made = same_one w refl (used_left c n (type_of d) (type_made w d made))

record_goes : {w : Constructors} (c : Pair w) (n : ℕ) (q : Place) (fs : List Field) (xs ys us vs : List Condition) → Each (GoesField w) fs → Goes w xs ys → Goes w us vs → Goes w (record_asks (left c) n q xs us fs) (record_asks (right c) n q ys vs fs)
record_goes c n q fs xs ys us vs each h g =
    let ls : List Written = labels_of fs in
    let found : kept_record (left c) n 1 ls ≡ kept_record (right c) n 1 ls = kept_record_one c n 1 ls in
    let made = kept_declared c n 1 ls in
    behind (behind (behind (behind (behind h (ask_record_goes c n 1 ls)) g)
    (along (λ o. fields_ask (left c) n o fs []) (λ o. fields_ask (right c) n o fs []) found (fields_go c n (kept_record (left c) n 1 ls) made fs [] each)))
    (along (λ o. ask_complete n 3 q o (names_of_labels fs)) (λ o. ask_complete n 3 q o (names_of_labels fs)) found (complete_goes n 3 q (kept_record (left c) n 1 ls) (names_of_labels fs))))
    (along (is_record (left c) n) (is_record (right c) n) found (record_left c n (kept_record (left c) n 1 ls) made))

abbrev has_record : Context → ℕ → Expression → Option Declaration → List Condition
has_record c n e o = elim o [ None ↦ [] | Some d ↦ has_type c n 2 e (used_at c n (type_of d)) ]

has_left : {w : Constructors} (c : Pair w) (n : ℕ) (e : Expression) (o : Option Declaration) → IsDeclared w o → Goes w (has_record (left c) n e o) (has_record (right c) n e o)
has_left c n e None made = nothing_goes
has_left {w} c n e (Some d) made = equal_one w refl (used_left c n (type_of d) (type_made w d made))

update_goes : {w : Constructors} (c : Pair w) (n : ℕ) (e : Expression) (fs : List Field) → GoesTyped w e → Each (GoesField w) fs → Goes w (update_asks (left c) n e fs) (update_asks (right c) n e fs)
update_goes c n e fs s each =
    let ls : List Written = labels_of fs in
    let found : kept_record (left c) n 1 ls ≡ kept_record (right c) n 1 ls = kept_record_one c n 1 ls in
    let made = kept_declared c n 1 ls in
    behind (behind (behind (behind (s.types c) (ask_record_goes c n 1 ls))
    (along (has_record (left c) n e) (has_record (right c) n e) found (has_left c n e (kept_record (left c) n 1 ls) made)))
    (along (λ o. fields_ask (left c) n o fs []) (λ o. fields_ask (right c) n o fs []) found (fields_go c n (kept_record (left c) n 1 ls) made fs [] each)))
    (along (is_record (left c) n) (is_record (right c) n) found (record_left c n (kept_record (left c) n 1 ls) made))

-- a record by its first part
first_goes : (w : Constructors) (f : Form) (n : ℕ) (value : Option Expression) → IfThere (GoesTyped w) value → Each (GoesField w) (first_field f n value)
first_goes w (a_path p) n value s = one_and (record { value = s }) no_one
first_goes w (a_constructor p) n value s = no_one
first_goes w a_float n value s = no_one
first_goes w a_false n value s = no_one
first_goes w (a_field p l) n value s = no_one
first_goes w no_expression n value s = no_one
first_goes w other n value s = no_one

before_goes : {w : Constructors} (c : Pair w) (n : ℕ) (e : Expression) (f : Form) → GoesTyped w e → Goes w (before_labels (left c) n e f) (before_labels (right c) n e f)
before_goes c n e (a_path p) s = nothing_goes
before_goes c n e no_expression s = s.types c
before_goes c n e (a_constructor p) s = at_test refl (s.types c)
before_goes c n e a_float s = at_test refl (s.types c)
before_goes c n e a_false s = at_test refl (s.types c)
before_goes c n e (a_field p l) s = at_test refl (s.types c)
before_goes c n e other s = at_test refl (s.types c)

abbrev as_list : Option Expression → List Expression
as_list o = elim o [ None ↦ [] | Some e ↦ e ∷ [] ]

list_typed : {w : Constructors} (o : Option Expression) → IfThere (GoesTyped w) o → Each (GoesTyped w) (as_list o)
list_typed None absent = no_one
list_typed (Some e) (there s) = one_and s no_one

loose_goes : {w : Constructors} (c : Pair w) (f : Form) (value : Option Expression) → IfThere (GoesTyped w) value → Goes w (loose_value (left c) f value) (loose_value (right c) f value)
loose_goes c (a_path p) value s = nothing_goes
loose_goes c (a_constructor p) value s = all_typed c (as_list value) (list_typed value s)
loose_goes c a_float value s = all_typed c (as_list value) (list_typed value s)
loose_goes c a_false value s = all_typed c (as_list value) (list_typed value s)
loose_goes c (a_field p l) value s = all_typed c (as_list value) (list_typed value s)
loose_goes c no_expression value s = all_typed c (as_list value) (list_typed value s)
loose_goes c other value s = all_typed c (as_list value) (list_typed value s)

pub erecord_goes : (w : Constructors) (n : ℕ) (q : Place) (e : Expression) (value : Option Expression) (fs : List Field) → GoesTyped w e → IfThere (GoesTyped w) value → Each (GoesField w) fs → GoesTyped w (record_expression n q e value fs)
erecord_goes w n q e value fs s v each =
    let all : Each (GoesField w) (first_field e.form e.node value ++ fs) = each_append (first_goes w e.form e.node value v) each in
    usual w n q _ _ _
    (λ c. record_goes c n q (first_field e.form e.node value ++ fs) (before_labels (left c) n e e.form) (before_labels (right c) n e e.form) (loose_value (left c) e.form value) (loose_value (right c) e.form value)
    all (before_goes c n e e.form s) (loose_goes c e.form value v))

pub eupdate_goes : (w : Constructors) (n : ℕ) (q : Place) (e : Expression) (fs : List Field) → GoesTyped w e → Each (GoesField w) fs → GoesTyped w (update_expression n q e fs)
eupdate_goes w n q e fs s each = usual w n q _ _ _ (λ c. update_goes c n e fs s each)

tested_goes : {w : Constructors} (c : Pair w) (n : ℕ) (e : Expression) → GoesTyped w e → Goes w (assert_asks (left c) n e other) (assert_asks (right c) n e other)
tested_goes {w} c n e s = behind (behind (s.types c) (equal_one w refl (bool_left w))) (same_one w refl (unit_left w))

assert_goes : {w : Constructors} (c : Pair w) (n : ℕ) (e : Expression) (f : Form) → GoesTyped w e → Goes w (assert_asks (left c) n e f) (assert_asks (right c) n e f)
assert_goes c n e a_false s = s.types c
assert_goes c n e (a_constructor p) s = tested_goes c n e s
assert_goes c n e (a_path p) s = tested_goes c n e s
assert_goes c n e a_float s = tested_goes c n e s
assert_goes c n e (a_field p l) s = tested_goes c n e s
assert_goes c n e no_expression s = tested_goes c n e s
assert_goes c n e other s = tested_goes c n e s

pub eassert_goes : (w : Constructors) (n : ℕ) (q : Place) (e : Expression) → GoesTyped w e → GoesTyped w (assert_expression n q e)
eassert_goes w n q e s = usual w n q _ _ _ (λ c. assert_goes c n e e.form s)

pub eif_goes : (w : Constructors) (n : ℕ) (q : Place) (e f : Expression) (g : Option Expression) → GoesTyped w e → GoesTyped w f → IfThere (GoesTyped w) g → GoesTyped w (if_expression n q e f g)
eif_goes w n q e f None s z absent = usual w n q _ _ _ (λ c. behind (behind (behind (behind (s.types c) (equal_one w refl (bool_left w))) (z.types c)) (equal_one w refl (unit_left w))) (same_one w refl (unit_left w)))
eif_goes w n q e f (Some g) s z (there x) =
    usual w n q _ _ _ (λ c. behind (behind (behind (behind (behind (s.types c) (equal_one w refl (bool_left w))) (z.types c)) (x.types c)) (equal_one w refl refl)) (same_one w refl refl))

last_goes : {w : Constructors} (c : Pair w) (n : ℕ) (o : Option Expression) → Goes w (elim o [ None ↦ [] | Some e ↦ is_of (left c) n (type_at (left c) e.node) ]) (elim o [ None ↦ [] | Some e ↦ is_of (right c) n (type_at (right c) e.node) ])
last_goes c n None = nothing_goes
last_goes {w} c n (Some e) = same_one w refl refl

pub eseq_goes : (w : Constructors) (n : ℕ) (q : Place) (es : List Expression) → Each (GoesTyped w) es → GoesTyped w (sequence_expression n q es)
eseq_goes w n q es each = usual w n q _ _ _ (λ c. behind (all_typed c es each) (last_goes c n (last_of es)))

pub ewhile_goes : (w : Constructors) (n : ℕ) (q : Place) (e f : Expression) → GoesTyped w e → GoesTyped w f → GoesTyped w (while_expression n q e f)
ewhile_goes w n q e f s z = usual w n q _ _ _ (λ c. behind (behind (behind (s.types c) (equal_one w refl (bool_left w))) (z.types c)) (same_one w refl (unit_left w)))

loop_rest : (w : Constructors) (x : Option Tok) → Each (RestName w) (loop_names x)
loop_rest w None = no_one
loop_rest w (Some t) = one_and (record { gives = λ c. int_left w }) no_one

pub efor_goes : (w : Constructors) (n : ℕ) (q : Place) (x : Option Tok) (e f g : Expression) → GoesTyped w e → GoesTyped w f → GoesTyped w g → GoesTyped w (for_expression n q x e f g)
efor_goes w n q x e f g s z y = usual w n q _ _ _ (λ c.
    behind (behind (behind (behind (behind (s.types c) (equal_one w refl (int_left w))) (z.types c)) (equal_one w refl (int_left w))) (y.types (more c (loop_names x) (loop_rest w x)))) (same_one w refl (unit_left w)))

-- cases
guard_goes : {w : Constructors} (n j : ℕ) (g : Option Expression) → IfThere (GoesTyped w) g → (c : Pair w) → Goes w (guard_asks (left c) n j g) (guard_asks (right c) n j g)
guard_goes n j None absent c = nothing_goes
guard_goes {w} n j (Some e) (there s) c = behind (s.types c) (equal_one w refl (bool_left w))

-- the body of a case has a type, if there is one
abbrev body_has : Context → ℕ → ℕ → Expression → Option Typ → List Condition
body_has c n j e o = elim o [ None ↦ [] | Some t ↦ has_type c n (j + 2) e t ]

body_goes : {w : Constructors} (c : Pair w) (n j : ℕ) (e : Expression) {t u : Option Typ} → BothThere w t u → Goes w (body_has (left c) n j e t) (body_has (right c) n j e u)
body_goes c n j e neither = nothing_goes
body_goes {w} c n j e (both h) = equal_one w refl h

case_goes : {w : Constructors} (c : Pair w) (n j : ℕ) (subject wanted : Typ) → wanted ≡ rest w subject → (result end : Option Typ) (x : Case) → BothThere w result end → GoesCase w x → Goes w (case_asks (left c) n j subject result x) (case_asks (right c) n j wanted end x)
case_goes {w} c n j subject wanted is result end x h s =
    at_treated (behind (behind (behind (behind (s.pattern.matches c []) (equal_one w refl is)) (guard_goes n (j + 1) x.guard s.guard (more c x.pattern.names s.pattern.names))) (s.body.types (more c x.pattern.names s.pattern.names))) (body_goes c n j x.body h))

later_goes : {w : Constructors} (c : Pair w) (n j : ℕ) (subject wanted result end : Typ) → wanted ≡ rest w subject → end ≡ rest w result → (xs : List Case) → Each (GoesCase w) xs → Goes w (later_cases (left c) n j subject result xs) (later_cases (right c) n j wanted end xs)
later_goes c n j subject wanted result end e f [] no_one = nothing_goes
later_goes c n j subject wanted result end e f (x ∷ xs) (one_and s each) = behind (case_goes c n j subject wanted e (Some result) (Some end) x (both f) s) (later_goes c n (j + 3) subject wanted result end e f xs each)

cases_go : {w : Constructors} (c : Pair w) (n : ℕ) (subject wanted : Typ) → wanted ≡ rest w subject → (xs : List Case) → Each (GoesCase w) xs → Goes w (cases_ask (left c) n subject xs) (cases_ask (right c) n wanted xs)
cases_go c n subject wanted e [] no_one = nothing_goes
cases_go c n subject wanted e (x ∷ xs) (one_and s each) =
    behind (case_goes c n 0 subject wanted e None None x neither s) (later_goes c n 3 subject wanted (type_at (left c) x.body.node) (type_at (right c) x.body.node) e refl xs each)

body_left : {w : Constructors} (c : Pair w) (n : ℕ) (xs : List Case) → first_body (right c) n xs ≡ rest w (first_body (left c) n xs)
body_left c n [] = refl
body_left c n (x ∷ xs) = refl

pub ematch_goes : (w : Constructors) (n : ℕ) (q : Place) (e : Expression) (xs : List Case) → GoesTyped w e → Each (GoesCase w) xs → GoesTyped w (match_expression n q e xs)
ematch_goes w n q e xs s each = usual w n q _ _ _ (λ c. behind (behind (s.types c) (cases_go c n (type_at (left c) e.node) (type_at (right c) e.node) refl xs each)) (same_one w refl (body_left c n xs)))

pub etry_goes : (w : Constructors) (n : ℕ) (q : Place) (e : Expression) (xs : List Case) → GoesTyped w e → Each (GoesCase w) xs → GoesTyped w (try_expression n q e xs)
etry_goes w n q e xs s each = usual w n q _ _ _ (λ c. behind (behind (s.types c) (later_goes c n 0 exn_type exn_type (type_at (left c) e.node) (type_at (right c) e.node) (exn_left w) refl xs each)) (same_one w refl refl))

pub efunction_goes : (w : Constructors) (n : ℕ) (q : Place) (xs : List Case) → Each (GoesCase w) xs → GoesTyped w (function_expression n q xs)
efunction_goes w n q xs each = usual w n q _ _ _ (λ c. behind (cases_go c n (letter (left c) n 0) (letter (right c) n 0) refl xs each) (same_one w refl (ap (Arrow (letter (right c) n 0)) (body_left c n xs))))

pub efun_goes : (w : Constructors) (n : ℕ) (q : Place) (ps : List Pattern) (e : Expression) → Each (GoesPattern w) ps → GoesTyped w e → GoesTyped w (fun_expression n q ps e)
efun_goes w n q ps e each s = usual w n q _ _ _ (λ c.
    behind (behind (apart_goes c ps each) (s.types (more c (all_names ps) (names_all ps each)))) (same_one w refl (arrows_left c ps (type_at (left c) e.node) (type_at (right c) e.node) refl)))

pub elet_goes : (w : Constructors) (n : ℕ) (q : Place) (is_rec : Bool) (bs : List Binding) (e : Expression) → Each (GoesBinding w) bs → GoesTyped w e → GoesTyped w (let_expression n q is_rec bs e)
elet_goes w n q is_rec bs e each s = usual w n q _ _ _ (λ c. behind (behind (bindings_go c is_rec bs each) (s.types (in_let c bs each))) (same_one w refl refl))
