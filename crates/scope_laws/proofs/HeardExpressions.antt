-- Expressions tell the typed nodes of their parts.
use Rattle.std.proofs.Common.{◌≡◌, ℕ, ◌+◌, Bool, true, false, List, [], ◌∷◌, ◌++◌, codes, Option, Some, None, refl, if◌then◌else◌}
use Rattle.token_model.specs.Kinds.{Tok}
use Rattle.tree_model.specs.Trees.{Place}
use Rattle.query_model.specs.TypedNodes.{Typed}
use Rattle.type_model.specs.Types.{Typ}
use Rattle.signature_model.specs.Declarations.{Name, Declaration, Label, type_of}
use Rattle.signature_model.specs.Components.{same_name}
use Rattle.typing_model.specs.Demands.{site, Condition}
use Rattle.typing_model.specs.Contexts.{Context, type_at, letter, with_names}
use Rattle.typing_model.specs.Parts.{Written, Form, a_constructor, a_path, a_float, a_false, a_field, no_expression, other, Expression, TypeExpression, place_of}
use Rattle.typing_model.specs.Names.{Built, then_by, used_at}
use Rattle.typing_model.specs.Patterns.{built_by}
use Rattle.typing_model.specs.Expressions.{expression, typed_all, has_type, is_of, value_asks, parenthesised, begun, list_expression, cons_expression, tuple_expression, applied_from, behind_constructor, behind_unbound, behind_argument, constructor_applied, application_asks, application, operator_applied, name_of, infix_expression, prefix_expression, under_sign, minus_asks, minus_expression, label_found, field_asks, field_expression, ask_mutable, set_expression, assert_asks, assert_expression, if_expression, sequence_expression, while_expression, loop_names, for_expression}
use Rattle.scope_laws.proofs.Heard.{types_in, Tells, nothing, left, behind, skip, both, front, back, join, AreAt, at_both, Heards, no_one, one_and, MayBe, absent, there}
use Rattle.scope_laws.proofs.HeardPatterns.{Into, applied_heard}

-- a constructor has no typed node but itself
abbrev pub IsHead : List Typed → Form → ℕ → Type 0
IsHead ts (a_constructor p) n = AreAt n ts
IsHead ts (a_path p) n = Unit {0}
IsHead ts a_float n = Unit {0}
IsHead ts a_false n = Unit {0}
IsHead ts (a_field p l) n = Unit {0}
IsHead ts no_expression n = Unit {0}
IsHead ts other n = Unit {0}

-- a path that is read as a label is no typed node, and has none in it
abbrev pub IsUnread : List Typed → Form → Bool → Type 0
IsUnread ts (a_path p) true = ts ≡ []
IsUnread ts _ _ = Unit {0}

-- an expression tells typed nodes wherever it stands
pub record HeardExpression (ts : List Typed) (e : Expression) : Type 0 where
  pub types : (c : Context) → Tells (types_in c) ts (e.typed c)
  pub negates : (c : Context) → Tells (types_in c) ts (e.negated c)
  pub forms : IsHead ts e.form e.node

-- what has no typed nodes has none but itself
pub no_head : (f : Form) (n : ℕ) → IsHead [] f n
no_head (a_constructor p) n = tt
no_head (a_path p) n = tt
no_head a_float n = tt
no_head a_false n = tt
no_head (a_field p l) n = tt
no_head no_expression n = tt
no_head other n = tt

-- a node before those of a part
pub head_too : (ts us : List Typed) (f : Form) (n : ℕ) → AreAt n ts → IsHead us f n → IsHead (ts ++ us) f n
head_too ts us (a_constructor p) n own h = at_both n ts us own h
head_too ts us (a_path p) n own h = tt
head_too ts us a_float n own h = tt
head_too ts us a_false n own h = tt
head_too ts us (a_field p l) n own h = tt
head_too ts us no_expression n own h = tt
head_too ts us other n own h = tt

-- and none behind it
pub head_more : (ts : List Typed) (f : Form) (n : ℕ) → IsHead ts f n → IsHead (ts ++ []) f n
head_more ts (a_constructor p) n h = at_both n ts [] h tt
head_more ts (a_path p) n h = tt
head_more ts a_float n h = tt
head_more ts a_false n h = tt
head_more ts (a_field p l) n h = tt
head_more ts no_expression n h = tt
head_more ts other n h = tt

-- one without typed nodes
pub no_nodes_in : {e : Expression} → HeardExpression [] e
no_nodes_in {e} = record { types = λ c. nothing; negates = λ c. nothing; forms = no_head e.form e.node }

-- an expression of the usual kind that is no path
pub usual : {us : List Typed} (ts : List Typed) (n : ℕ) (q : Place) (typed : Context → List Condition) (is_value : Context → Bool) → Into ts us → ((c : Context) → Tells (types_in c) ts (typed c)) → HeardExpression us (expression n q other typed is_value)
usual ts n q typed is_value into h = record { types = λ c. into (types_in c) (typed c) (h c); negates = λ c. into (types_in c) (typed c) (h c); forms = tt }

-- expressions in order
pub all_typed : {ts : List Typed} (c : Context) {es : List Expression} → Heards HeardExpression ts es → Tells (types_in c) ts (typed_all c es)
all_typed c no_one = nothing
all_typed c (one_and s rest) = join (s.types c) (all_typed c rest)

pub eparen_heard : {ts us : List Typed} (n : ℕ) (q : Place) (e : Expression) (t : Option TypeExpression) → Into ts us → HeardExpression ts e → HeardExpression us (parenthesised n q e t)
eparen_heard {ts} n q e None into s = usual ts n q _ _ into (λ c. left _ (s.types c))
eparen_heard {ts} n q e (Some t) into s = usual ts n q _ _ into (λ c. left _ (left _ (left _ (s.types c))))

pub ebegin_heard : {ts us : List Typed} (n : ℕ) (q : Place) (e : Option Expression) → Into ts us → MayBe HeardExpression ts e → HeardExpression us (begun n q e)
ebegin_heard n q None into absent = usual [] n q _ _ into (λ c. nothing)
ebegin_heard {ts} n q (Some e) into (there s) = usual ts n q _ _ into (λ c. left _ (s.types c))

pub elist_heard : {ts us : List Typed} (n : ℕ) (q : Place) (es : List Expression) → Into ts us → Heards HeardExpression ts es → HeardExpression us (list_expression n q es)
elist_heard {ts} n q es into each = usual ts n q _ _ into (λ c. left _ (left _ (all_typed c each)))

pub etuple_heard : {ts us : List Typed} (n : ℕ) (q : Place) (es : List Expression) → Into ts us → Heards HeardExpression ts es → HeardExpression us (tuple_expression n q es)
etuple_heard {ts} n q es into each = usual ts n q _ _ into (λ c. left _ (all_typed c each))

pub eseq_heard : {ts us : List Typed} (n : ℕ) (q : Place) (es : List Expression) → Into ts us → Heards HeardExpression ts es → HeardExpression us (sequence_expression n q es)
eseq_heard {ts} n q es into each = usual ts n q _ _ into (λ c. left _ (all_typed c each))

pub econs_heard : {ts us vs : List Typed} (n : ℕ) (q : Place) (e f : Expression) → Into (ts ++ us) vs → HeardExpression ts e → HeardExpression us f → HeardExpression vs (cons_expression n q e f)
econs_heard {ts} {us} n q e f into s z = usual (ts ++ us) n q _ _ into (λ c. left _ (left _ (join (s.types c) (z.types c))))

-- a head and its arguments
applied_from_heard : {ts : List Typed} (c : Context) (n j i : ℕ) (q : Place) (h : Typ) {es : List Expression} → Heards HeardExpression ts es → Tells (types_in c) ts (applied_from c n j i q h es)
applied_from_heard c n j i q h no_one = nothing
applied_from_heard c n j i q h (one_and s rest) = skip (join (left _ (s.types c)) (applied_from_heard c n (j + 2) (i + 2) q (letter c n (i + 1)) rest))

-- a head is a constructor or another expression
unbound_heard : {ts : List Typed} (c : Context) (n : ℕ) (head : Expression) {es : List Expression} → Heards HeardExpression ts es → Tells (types_in c) ts (behind_unbound c n head es)
unbound_heard c n head no_one = nothing
unbound_heard c n head (one_and s rest) = all_typed c (one_and s rest)

behind_constructor_heard : {ts : List Typed} (c : Context) (n : ℕ) (head : Expression) {es : List Expression} → Heards HeardExpression ts es → Tells (types_in c) ts (behind_constructor c n head es)
behind_constructor_heard c n head no_one = nothing
behind_constructor_heard c n head (one_and s rest) = applied_from_heard c n 3 0 head.at (type_at c head.node) (one_and s rest)

argument_heard : {ts : List Typed} (c : Context) (n : ℕ) (head : Expression) {es : List Expression} (b : Option Built) → Heards HeardExpression ts es → Tells (types_in c) ts (behind_argument c n head es b)
argument_heard c n head None each = unbound_heard c n head each
argument_heard c n head (Some b) each = behind_constructor_heard c n head each

constructor_applied_heard : {ts : List Typed} (us : List Typed) (c : Context) (n : ℕ) (p : Written) (head : Expression) {es : List Expression} → HeardExpression us head → AreAt head.node us → Heards HeardExpression ts es → Tells (types_in c) (us ++ ts) (constructor_applied c n p head es)
constructor_applied_heard us c n p head h own no_one = both (h.types c) nothing
constructor_applied_heard us c n p head h own (one_and {ts = ts} {us = vs} {x = e} {xs = es} s rest) =
    let first = applied_heard us c n p head.node (head.node ∷ []) e.at (type_at c e.node) own (s.types c) in
    both (left _ (front us ts first)) (join (back us ts first) (argument_heard c n head (then_by p.last (built_by c n p)) rest))

-- another head and its arguments
plainly_applied : {ts : List Typed} (us : List Typed) (c : Context) (n : ℕ) (head : Expression) {es : List Expression} → HeardExpression us head → Heards HeardExpression ts es → Tells (types_in c) (us ++ ts) (head.typed c ++ applied_from c n 0 0 head.at (type_at c head.node) es)
plainly_applied us c n head h each = join (h.types c) (applied_from_heard c n 0 0 head.at (type_at c head.node) each)

application_heard : {ts : List Typed} (us : List Typed) (c : Context) (n : ℕ) (head : Expression) {es : List Expression} (f : Form) → IsHead us f head.node → HeardExpression us head → Heards HeardExpression ts es → Tells (types_in c) (us ++ ts) (application_asks c n head es f)
application_heard us c n head (a_constructor p) own h each = constructor_applied_heard us c n p head h own each
application_heard us c n head (a_path p) own h each = plainly_applied us c n head h each
application_heard us c n head a_float own h each = plainly_applied us c n head h each
application_heard us c n head a_false own h each = plainly_applied us c n head h each
application_heard us c n head (a_field p l) own h each = plainly_applied us c n head h each
application_heard us c n head no_expression own h each = plainly_applied us c n head h each
application_heard us c n head other own h each = plainly_applied us c n head h each

pub eapp_heard : {ts us vs : List Typed} (n : ℕ) (q : Place) (head : Expression) (es : List Expression) → Into (us ++ ts) vs → HeardExpression us head → Heards HeardExpression ts es → HeardExpression vs (application n q head es)
eapp_heard {ts} {us} n q head es into h each = usual (us ++ ts) n q _ _ into (λ c. application_heard us c n head head.form h.forms h each)

operator_heard : {ts : List Typed} (c : Context) (n : ℕ) (t : Option Tok) (x : Name) {es : List Expression} → Heards HeardExpression ts es → Tells (types_in c) ts (operator_applied c n t x es)
operator_heard c n None x each = all_typed c each
operator_heard c n (Some t) x each = behind (value_asks c n 0 (record { qualifiers = []; last = Some (record t { name = x }) }) (letter c n 0)) (applied_from_heard c n 1 1 (place_of t) (letter c n 0) each)

operator_one : {ts : List Typed} (c : Context) (n : ℕ) (t : Option Tok) (x : Name) {e : Expression} → HeardExpression ts e → Tells (types_in c) ts (operator_applied c n t x (e ∷ []))
operator_one {ts} c n t x s = front ts [] (operator_heard c n t x (one_and s no_one))

pub infix_heard : {ts us vs : List Typed} (n : ℕ) (q : Place) (t : Option Tok) (e f : Expression) → Into (ts ++ us) vs → HeardExpression ts e → HeardExpression us f → HeardExpression vs (infix_expression n q t e f)
infix_heard {ts} {us} n q t e f into s z = usual (ts ++ us) n q _ _ into (λ c. let h = operator_heard c n t (name_of t) (one_and s (one_and z no_one)) in both (front ts (us ++ []) h) (front us [] (back ts (us ++ []) h)))

pub prefix_heard : {ts us : List Typed} (n : ℕ) (q : Place) (t : Option Tok) (e : Expression) → Into ts us → HeardExpression ts e → HeardExpression us (prefix_expression n q t e)
prefix_heard {ts} n q t e into s = usual ts n q _ _ into (λ c. operator_one c n t (name_of t) s)

under_sign_heard : {ts : List Typed} (t : Option Tok) (e : Expression) → HeardExpression ts e → HeardExpression ts (under_sign t e)
under_sign_heard {ts} t e s = by (same_name (name_of t) (codes "-"))
  where
    by : (b : Bool) → HeardExpression ts (if b then record e { typed = e.negated } else e)
    by true = record { types = s.negates; negates = s.negates; forms = s.forms }
    by false = s

minus_heard : {ts : List Typed} (c : Context) (n : ℕ) (t : Option Tok) (e : Expression) (f : Form) → HeardExpression ts e → Tells (types_in c) ts (minus_asks c n t e f)
minus_heard c n t e a_float s = left _ (s.negates c)
minus_heard c n t e (a_constructor p) s = operator_one c n t (codes "~" ++ name_of t) (under_sign_heard t e s)
minus_heard c n t e (a_path p) s = operator_one c n t (codes "~" ++ name_of t) (under_sign_heard t e s)
minus_heard c n t e a_false s = operator_one c n t (codes "~" ++ name_of t) (under_sign_heard t e s)
minus_heard c n t e (a_field p l) s = operator_one c n t (codes "~" ++ name_of t) (under_sign_heard t e s)
minus_heard c n t e no_expression s = operator_one c n t (codes "~" ++ name_of t) (under_sign_heard t e s)
minus_heard c n t e other s = operator_one c n t (codes "~" ++ name_of t) (under_sign_heard t e s)

pub eneg_heard : {ts us : List Typed} (n : ℕ) (q : Place) (t : Option Tok) (e : Expression) → Into ts us → HeardExpression ts e → HeardExpression us (minus_expression n q t e)
eneg_heard {ts} n q t e into s = usual ts n q _ _ into (λ c. minus_heard c n t e e.form s)

-- a field
abbrev field_behind : Context → ℕ → Expression → Option (Declaration × Label) → List Condition
field_behind c n e o = elim o [ None ↦ [] | Some (d, l) ↦ has_type c n 1 e (used_at c n (type_of d)) ++ is_of c n (used_at c n l.body) ]

field_asked : {ts : List Typed} (c : Context) (n : ℕ) (e : Expression) (p : Written) → HeardExpression ts e → Tells (types_in c) ts (field_asks c n e p)
field_asked {ts} c n e p s = by p.last refl
  where
    by : (l : Option Tok) → p.last ≡ l → Tells (types_in c) ts (field_asks c n e p)
    by None g = rw (g, field_asks) (s.types c)
    by (Some t) g = rw (g, field_asks) (left (field_behind c n e (if c.kept (site n 0) then label_found c p else None)) (left _ (s.types c)))

pub efield_heard : {ts us : List Typed} (n : ℕ) (q : Place) (e : Expression) (p : Written) → Into ts us → HeardExpression ts e → HeardExpression us (field_expression n q e p)
efield_heard n q e p into s = record { types = λ c. into (types_in c) (field_asks c n e p) (field_asked c n e p s); negates = λ c. into (types_in c) (field_asks c n e p) (field_asked c n e p s); forms = tt }

pub eset_heard : {ts us vs : List Typed} (n : ℕ) (q : Place) (e f : Expression) → Into (ts ++ us) vs → HeardExpression ts e → HeardExpression us f → HeardExpression vs (set_expression n q e f)
eset_heard {ts} {us} n q e f into s z = usual (ts ++ us) n q _ _ into (λ c. left _ (left _ (join (left (ask_mutable c n e.form) (s.types c)) (z.types c))))

pub eassert_heard : {ts us : List Typed} (n : ℕ) (q : Place) (e : Expression) → Into ts us → HeardExpression ts e → HeardExpression us (assert_expression n q e)
eassert_heard {ts} n q e into s = usual ts n q _ _ into (λ c. by c e.form)
  where
    by : (c : Context) (f : Form) → Tells (types_in c) ts (assert_asks c n e f)
    by c a_false = s.types c
    by c (a_constructor p) = left _ (left _ (s.types c))
    by c (a_path p) = left _ (left _ (s.types c))
    by c a_float = left _ (left _ (s.types c))
    by c (a_field p l) = left _ (left _ (s.types c))
    by c no_expression = left _ (left _ (s.types c))
    by c other = left _ (left _ (s.types c))

pub eif_heard : {ts us ws vs : List Typed} (n : ℕ) (q : Place) (e f : Expression) (g : Option Expression) → Into ((ts ++ us) ++ ws) vs → HeardExpression ts e → HeardExpression us f → MayBe HeardExpression ws g → HeardExpression vs (if_expression n q e f g)
eif_heard {ts} {us} n q e f None into s z absent = usual ((ts ++ us) ++ []) n q _ _ into (λ c. both (left _ (left _ (join (left _ (s.types c)) (z.types c)))) nothing)
eif_heard {ts} {us} {ws} n q e f (Some g) into s z (there w) = usual ((ts ++ us) ++ ws) n q _ _ into (λ c. left _ (left _ (join (join (left _ (s.types c)) (z.types c)) (w.types c))))

pub ewhile_heard : {ts us vs : List Typed} (n : ℕ) (q : Place) (e f : Expression) → Into (ts ++ us) vs → HeardExpression ts e → HeardExpression us f → HeardExpression vs (while_expression n q e f)
ewhile_heard {ts} {us} n q e f into s z = usual (ts ++ us) n q _ _ into (λ c. left _ (join (left _ (s.types c)) (z.types c)))

pub efor_heard : {ts us ws vs : List Typed} (n : ℕ) (q : Place) (x : Option Tok) (e f g : Expression) → Into ((ts ++ us) ++ ws) vs → HeardExpression ts e → HeardExpression us f → HeardExpression ws g → HeardExpression vs (for_expression n q x e f g)
efor_heard {ts} {us} {ws} n q x e f g into s z w = usual ((ts ++ us) ++ ws) n q _ _ into (λ c. left _ (join (left _ (join (left _ (s.types c)) (z.types c))) (w.types (with_names c (loop_names x)))))
