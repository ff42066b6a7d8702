-- What expressions tell.
use Rattle.std.proofs.Common.{◌≡◌, ℕ, ◌+◌, Bool, true, false, List, [], ◌∷◌, ◌++◌, codes, Option, Some, None, refl, if◌then◌else◌}
use Rattle.token_model.specs.Kinds.{Tok, Kind, upper}
use Rattle.tree_model.specs.Trees.{Place}
use Rattle.type_model.specs.Types.{Typ}
use Rattle.type_model.specs.Schemes.{Scheme}
use Rattle.signature_model.specs.Declarations.{Name, Declaration, Label, type_of}
use Rattle.signature_model.specs.Components.{same_name}
use Rattle.signature_model.specs.Entries.{value_kind}
use Rattle.typing_model.specs.Demands.{site, test, not_mutable, Condition, instance}
use Rattle.typing_model.specs.Contexts.{Context, type_at, letter, ask, with_names}
use Rattle.typing_model.specs.Parts.{Written, Form, a_constructor, a_path, a_float, a_false, a_field, no_expression, other, Expression, TypeExpression, no_expression_at, place_of, last_of}
use Rattle.typing_model.specs.Names.{Built, found_by, referent_of, then_by, scheme_in, used_at}
use Rattle.typing_model.specs.BuiltIns.{list_type}
use Rattle.typing_model.specs.Patterns.{built_by, behind_first}
use Rattle.typing_model.specs.Expressions.{expression, typed_all, has_type, is_of, value_asks, name_form, name_expression, constructor_expression, path_expression, constant_expression, hole_expression, parenthesised, begun, first_type, each_has, list_expression, cons_expression, tuple_expression, applied_from, behind_constructor, behind_unbound, behind_argument, constructor_applied, application_asks, application, operator_applied, name_of, infix_expression, prefix_expression, under_sign, minus_asks, minus_expression, label_found, field_asks, field_expression, ask_mutable, set_expression, assert_asks, assert_expression, if_expression, sequence_expression, while_expression, loop_names, for_expression}
use Rattle.typing_laws.proofs.Steady.{Each, no_one, one_and, IfThere, absent, there}
use Rattle.over_laws.proofs.Told.{Around, IsIn, over_with, Told, silent, nothing_told, join, quiet, asked}
use Rattle.over_laws.proofs.Types.{ToldType}
use Rattle.over_laws.proofs.Patterns.{constant_told, constructor_alone_told, applied_told, all_asked}

-- an expression tells environments with values and exceptions in front where it stands in one
pub record ToldExpression (w : Around) (e : Expression) : Type 0 where
  pub types : (c : Context) → IsIn w c → Told w (e.typed c)
  pub negates : (c : Context) → IsIn w c → Told w (e.negated c)

pub no_expression_told : {w : Around} (n : ℕ) (q : Place) → ToldExpression w (no_expression_at n q)
no_expression_told n q = record { types = λ c o. nothing_told; negates = λ c o. nothing_told }

-- an expression of the usual kind
pub usual : {w : Around} (n : ℕ) (q : Place) (f : Form) (typed : Context → List Condition) (is_value : Context → Bool) → ((c : Context) → IsIn w c → Told w (typed c)) → ToldExpression w (expression n q f typed is_value)
usual n q f typed is_value h = record { types = h; negates = h }

pub all_typed : {w : Around} (c : Context) (o : IsIn w c) {es : List Expression} → Each (ToldExpression w) es → Told w (typed_all c es)
all_typed c o no_one = nothing_told
all_typed c o (one_and s rest) = join (s.types c o) (all_typed c o rest)

-- names
abbrev use_behind : Typ → Option Scheme → List Condition
use_behind t o = elim o [ None ↦ [] | Some s ↦ instance s t ∷ [] ]

use_told : {w : Around} (t : Typ) (o : Option Scheme) → Told w (use_behind t o)
use_told t None = nothing_told
use_told t (Some s) = silent (use_behind t (Some s)) (tt, tt)

pub value_told : {w : Around} (c : Context) (n j : ℕ) (p : Written) (t : Typ) → Told w (value_asks c n j p t)
value_told {w} c n j p t = by p.last refl
  where
    by : (o : Option Tok) → p.last ≡ o → Told w (value_asks c n j p t)
    by None e = rw (e, value_asks) nothing_told
    by (Some x) e = rw (e, value_asks) (join asked (use_told t (if c.kept (site n j) then then_by (referent_of (found_by c value_kind p x)) scheme_in else None)))

pub name_told : {w : Around} (n : ℕ) (q : Place) (p : Written) → ToldExpression w (name_expression n q p)
name_told n q p = usual n q (name_form p) _ _ (λ c o. value_told c n 0 p (type_at c n))

pub econ_told : {w : Around} (n : ℕ) (q : Place) (p : Written) → ToldExpression w (constructor_expression n q p)
econ_told n q p = usual n q (a_constructor p) _ _ (λ c o. constructor_alone_told c n p)

pub path_told : {w : Around} (n : ℕ) (q : Place) (p : Written) → ToldExpression w (path_expression n q p)
path_told {w} n q p = by p.last refl
  where
    of_kind : (t : Tok) → p.last ≡ Some t → (s : Kind) → t.kind ≡ s → ToldExpression w (path_expression n q p)
    of_kind t e upper f = rw (e, f, path_expression) (econ_told n q p)
    of_kind t e _ f = rw (e, f, path_expression) (name_told n q p)

    by : (o : Option Tok) → p.last ≡ o → ToldExpression w (path_expression n q p)
    by None e = rw (e, path_expression) (usual n q other _ _ (λ c o. nothing_told))
    by (Some t) e = of_kind t e t.kind refl

pub econst_told : {w : Around} (n : ℕ) (q : Place) (t : Option Tok) → ToldExpression w (constant_expression n q t)
econst_told n q t = record { types = λ c o. constant_told false n t c; negates = λ c o. constant_told true n t c }

pub hole_told : {w : Around} (n : ℕ) (q : Place) → ToldExpression w (hole_expression n q)
hole_told n q = usual n q other _ _ (λ c o. nothing_told)

pub eparen_told : {w : Around} (n : ℕ) (q : Place) (e : Expression) (t : Option TypeExpression) → ToldExpression w e → IfThere (ToldType w) t → ToldExpression w (parenthesised n q e t)
eparen_told n q e None s absent = usual n q other _ _ (λ c o. quiet _ (tt, tt) (s.types c o))
eparen_told n q e (Some t) s (there r) = usual n q other _ _ (λ c o. quiet _ (tt, tt) (join (join (s.types c o) (r.reads c o)) asked))

pub ebegin_told : {w : Around} (n : ℕ) (q : Place) (e : Option Expression) → IfThere (ToldExpression w) e → ToldExpression w (begun n q e)
ebegin_told n q None absent = usual n q other _ _ (λ c o. silent _ (tt, tt))
ebegin_told n q (Some e) (there s) = usual n q other _ _ (λ c o. quiet _ (tt, tt) (s.types c o))

pub elist_told : {w : Around} (n : ℕ) (q : Place) (es : List Expression) → Each (ToldExpression w) es → ToldExpression w (list_expression n q es)
elist_told n q es each = usual n q other _ _ (λ c o. quiet (is_of c n (list_type (first_type c n es))) (tt, tt) (join (all_typed c o each) (all_asked n 0 (each_has c (first_type c n es) (behind_first es)))))

pub econs_told : {w : Around} (n : ℕ) (q : Place) (e f : Expression) → ToldExpression w e → ToldExpression w f → ToldExpression w (cons_expression n q e f)
econs_told n q e f s z = usual n q other _ _ (λ c o. quiet _ (tt, tt) (join (join (s.types c o) (z.types c o)) asked))

pub etuple_told : {w : Around} (n : ℕ) (q : Place) (es : List Expression) → Each (ToldExpression w) es → ToldExpression w (tuple_expression n q es)
etuple_told n q es each = usual n q other _ _ (λ c o. quiet _ (tt, tt) (all_typed c o each))

-- a head and its arguments
applied_from_told : {w : Around} (c : Context) (o : IsIn w c) (n j i : ℕ) (q : Place) (h : Typ) {es : List Expression} → Each (ToldExpression w) es → Told w (applied_from c n j i q h es)
applied_from_told c o n j i q h no_one = silent _ (tt, tt)
applied_from_told c o n j i q h (one_and s rest) = join (join (join asked (s.types c o)) asked) (applied_from_told c o n (j + 2) (i + 2) q (letter c n (i + 1)) rest)

-- a head is a constructor or another expression
unbound_told : {w : Around} (c : Context) (o : IsIn w c) (n : ℕ) (head : Expression) {es : List Expression} → Each (ToldExpression w) es → Told w (behind_unbound c n head es)
unbound_told c o n head no_one = silent _ (tt, tt)
unbound_told c o n head (one_and s rest) = all_typed c o (one_and s rest)

behind_constructor_told : {w : Around} (c : Context) (o : IsIn w c) (n : ℕ) (head : Expression) {es : List Expression} → Each (ToldExpression w) es → Told w (behind_constructor c n head es)
behind_constructor_told c o n head no_one = silent _ (tt, tt)
behind_constructor_told c o n head (one_and s rest) = applied_from_told c o n 3 0 head.at (type_at c head.node) (one_and s rest)

argument_behind : {w : Around} (c : Context) (o : IsIn w c) (n : ℕ) (head : Expression) {es : List Expression} (b : Option Built) → Each (ToldExpression w) es → Told w (behind_argument c n head es b)
argument_behind c o n head None each = unbound_told c o n head each
argument_behind c o n head (Some b) each = behind_constructor_told c o n head each

constructor_applied_told : {w : Around} (c : Context) (o : IsIn w c) (n : ℕ) (p : Written) (head : Expression) {es : List Expression} → ToldExpression w head → Each (ToldExpression w) es → Told w (constructor_applied c n p head es)
constructor_applied_told c o n p head h no_one = h.types c o
constructor_applied_told c o n p head h (one_and {x = e} {xs = es} s rest) =
    join (applied_told c n p head.node (head.node ∷ []) e.at (type_at c e.node) o (s.types c o)) (argument_behind c o n head (then_by p.last (built_by c n p)) rest)

-- another head and its arguments
plainly_applied : {w : Around} (c : Context) (o : IsIn w c) (n : ℕ) (head : Expression) {es : List Expression} → ToldExpression w head → Each (ToldExpression w) es → Told w (head.typed c ++ applied_from c n 0 0 head.at (type_at c head.node) es)
plainly_applied c o n head h each = join (h.types c o) (applied_from_told c o n 0 0 head.at (type_at c head.node) each)

application_told : {w : Around} (c : Context) (o : IsIn w c) (n : ℕ) (head : Expression) {es : List Expression} (f : Form) → ToldExpression w head → Each (ToldExpression w) es → Told w (application_asks c n head es f)
application_told c o n head (a_constructor p) h each = constructor_applied_told c o n p head h each
application_told c o n head (a_path p) h each = plainly_applied c o n head h each
application_told c o n head a_float h each = plainly_applied c o n head h each
application_told c o n head a_false h each = plainly_applied c o n head h each
application_told c o n head (a_field p l) h each = plainly_applied c o n head h each
application_told c o n head no_expression h each = plainly_applied c o n head h each
application_told c o n head other h each = plainly_applied c o n head h each

pub eapp_told : {w : Around} (n : ℕ) (q : Place) (head : Expression) (es : List Expression) → ToldExpression w head → Each (ToldExpression w) es → ToldExpression w (application n q head es)
eapp_told n q head es h each = usual n q other _ _ (λ c o. application_told c o n head head.form h each)

operator_told : {w : Around} (c : Context) (o : IsIn w c) (n : ℕ) (t : Option Tok) (x : Name) {es : List Expression} → Each (ToldExpression w) es → Told w (operator_applied c n t x es)
operator_told c o n None x each = all_typed c o each
operator_told c o n (Some t) x each = join (value_told c n 0 (record { qualifiers = []; last = Some (record t { name = x }) }) (letter c n 0)) (applied_from_told c o n 1 1 (place_of t) (letter c n 0) each)

pub infix_told : {w : Around} (n : ℕ) (q : Place) (t : Option Tok) (e f : Expression) → ToldExpression w e → ToldExpression w f → ToldExpression w (infix_expression n q t e f)
infix_told n q t e f s z = usual n q other _ _ (λ c o. operator_told c o n t (name_of t) (one_and s (one_and z no_one)))

pub prefix_told : {w : Around} (n : ℕ) (q : Place) (t : Option Tok) (e : Expression) → ToldExpression w e → ToldExpression w (prefix_expression n q t e)
prefix_told n q t e s = usual n q other _ _ (λ c o. operator_told c o n t (name_of t) (one_and s no_one))

under_sign_told : {w : Around} (t : Option Tok) (e : Expression) → ToldExpression w e → ToldExpression w (under_sign t e)
under_sign_told {w} t e s = by (same_name (name_of t) (codes "-"))
  where
    by : (b : Bool) → ToldExpression w (if b then record e { typed = e.negated } else e)
    by true = record { types = s.negates; negates = s.negates }
    by false = s

minus_told : {w : Around} (c : Context) (o : IsIn w c) (n : ℕ) (t : Option Tok) (e : Expression) (f : Form) → ToldExpression w e → Told w (minus_asks c n t e f)
minus_told c o n t e a_float s = quiet _ (tt, tt) (s.negates c o)
minus_told c o n t e (a_constructor p) s = operator_told c o n t (codes "~" ++ name_of t) (one_and (under_sign_told t e s) no_one)
minus_told c o n t e (a_path p) s = operator_told c o n t (codes "~" ++ name_of t) (one_and (under_sign_told t e s) no_one)
minus_told c o n t e a_false s = operator_told c o n t (codes "~" ++ name_of t) (one_and (under_sign_told t e s) no_one)
minus_told c o n t e (a_field p l) s = operator_told c o n t (codes "~" ++ name_of t) (one_and (under_sign_told t e s) no_one)
minus_told c o n t e no_expression s = operator_told c o n t (codes "~" ++ name_of t) (one_and (under_sign_told t e s) no_one)
minus_told c o n t e other s = operator_told c o n t (codes "~" ++ name_of t) (one_and (under_sign_told t e s) no_one)

pub eneg_told : {w : Around} (n : ℕ) (q : Place) (t : Option Tok) (e : Expression) → ToldExpression w e → ToldExpression w (minus_expression n q t e)
eneg_told n q t e s = usual n q other _ _ (λ c o. minus_told c o n t e e.form s)

-- a field
abbrev field_behind : Context → ℕ → Expression → Option (Declaration × Label) → List Condition
field_behind c n e o = elim o [ None ↦ [] | Some (d, l) ↦ has_type c n 1 e (used_at c n (type_of d)) ++ is_of c n (used_at c n l.body) ]

field_behind_told : {w : Around} (c : Context) (n : ℕ) (e : Expression) (o : Option (Declaration × Label)) → Told w (field_behind c n e o)
field_behind_told c n e None = nothing_told
field_behind_told c n e (Some (d, l)) = quiet _ (tt, tt) asked

field_asked : {w : Around} (c : Context) (o : IsIn w c) (n : ℕ) (e : Expression) (p : Written) → ToldExpression w e → Told w (field_asks c n e p)
field_asked {w} c o n e p s = by p.last refl
  where
    by : (l : Option Tok) → p.last ≡ l → Told w (field_asks c n e p)
    by None g = rw (g, field_asks) (s.types c o)
    by (Some t) g = rw (g, field_asks) (join (join (s.types c o) asked) (field_behind_told c n e (if c.kept (site n 0) then label_found c p else None)))

pub field_told : {w : Around} (n : ℕ) (q : Place) (e : Expression) (p : Written) → ToldExpression w e → ToldExpression w (field_expression n q e p)
field_told n q e p s = record { types = λ c o. field_asked c o n e p s; negates = λ c o. field_asked c o n e p s }

mutable_told : {w : Around} (c : Context) (n : ℕ) (f : Form) → Told w (ask_mutable c n f)
mutable_told {w} c n (a_field p label) = by (label c) p.last
  where
    by : (o : Option Label) (l : Option Tok) → Told w (elim o [ None ↦ [] | Some l' ↦ elim l [ None ↦ [] | Some t ↦ ask n 0 (place_of t) (test (not_mutable t.name) l'.is_mutable) ] ])
    by None l = nothing_told
    by (Some x) None = nothing_told
    by (Some x) (Some t) = asked
mutable_told c n (a_constructor p) = nothing_told
mutable_told c n (a_path p) = nothing_told
mutable_told c n a_float = nothing_told
mutable_told c n a_false = nothing_told
mutable_told c n no_expression = nothing_told
mutable_told c n other = nothing_told

pub eset_told : {w : Around} (n : ℕ) (q : Place) (e f : Expression) → ToldExpression w e → ToldExpression w f → ToldExpression w (set_expression n q e f)
eset_told n q e f s z = usual n q other _ _ (λ c o. quiet _ (tt, tt) (join (join (join (s.types c o) (mutable_told c n e.form)) (z.types c o)) asked))

pub eassert_told : {w : Around} (n : ℕ) (q : Place) (e : Expression) → ToldExpression w e → ToldExpression w (assert_expression n q e)
eassert_told {w} n q e s = usual n q other _ _ (λ c o. by c o e.form)
  where
    by : (c : Context) → IsIn w c → (f : Form) → Told w (assert_asks c n e f)
    by c o a_false = s.types c o
    by c o (a_constructor p) = quiet _ (tt, tt) (join (s.types c o) asked)
    by c o (a_path p) = quiet _ (tt, tt) (join (s.types c o) asked)
    by c o a_float = quiet _ (tt, tt) (join (s.types c o) asked)
    by c o (a_field p l) = quiet _ (tt, tt) (join (s.types c o) asked)
    by c o no_expression = quiet _ (tt, tt) (join (s.types c o) asked)
    by c o other = quiet _ (tt, tt) (join (s.types c o) asked)

pub eif_told : {w : Around} (n : ℕ) (q : Place) (e f : Expression) (g : Option Expression) → ToldExpression w e → ToldExpression w f → IfThere (ToldExpression w) g → ToldExpression w (if_expression n q e f g)
eif_told n q e f None s z absent = usual n q other _ _ (λ c o. quiet _ (tt, tt) (join (join (join (s.types c o) asked) (z.types c o)) asked))
eif_told n q e f (Some g) s z (there w) = usual n q other _ _ (λ c o. quiet _ (tt, tt) (join (join (join (join (s.types c o) asked) (z.types c o)) (w.types c o)) asked))

last_told : {w : Around} (c : Context) (n : ℕ) (o : Option Expression) → Told w (elim o [ None ↦ [] | Some e ↦ is_of c n (type_at c e.node) ])
last_told c n None = nothing_told
last_told c n (Some e) = silent (is_of c n (type_at c e.node)) (tt, tt)

pub eseq_told : {w : Around} (n : ℕ) (q : Place) (es : List Expression) → Each (ToldExpression w) es → ToldExpression w (sequence_expression n q es)
eseq_told n q es each = usual n q other _ _ (λ c o. join (all_typed c o each) (last_told c n (last_of es)))

pub ewhile_told : {w : Around} (n : ℕ) (q : Place) (e f : Expression) → ToldExpression w e → ToldExpression w f → ToldExpression w (while_expression n q e f)
ewhile_told n q e f s z = usual n q other _ _ (λ c o. quiet _ (tt, tt) (join (join (s.types c o) asked) (z.types c o)))

pub efor_told : {w : Around} (n : ℕ) (q : Place) (x : Option Tok) (e f g : Expression) → ToldExpression w e → ToldExpression w f → ToldExpression w g → ToldExpression w (for_expression n q x e f g)
efor_told n q x e f g s z w = usual n q other _ _ (λ c o. quiet _ (tt, tt) (join (join (join (join (s.types c o) asked) (z.types c o)) asked) (w.types (with_names c (loop_names x)) (over_with c (loop_names x) o))))
