-- Type expressions make the same demands.
use Rattle.std.proofs.Common.{◌≡◌, ℕ, ◌==◌, Bool, true, false, List, [], ◌∷◌, length, Option, Some, None, refl, ap, if◌then◌else◌}
use Rattle.token_model.specs.Kinds.{Tok}
use Rattle.tree_model.specs.Trees.{Place}
use Rattle.type_model.specs.Types.{Typ}
use Rattle.signature_model.specs.Declarations.{Shape, Opaque, Variant, Labels, Declaration}
use Rattle.signature_model.specs.Entries.{Entry, Referent, a_type, type_kind}
use Rattle.signature_model.specs.Lookups.{FoundAmong}
use Rattle.typing_model.specs.Demands.{type_word}
use Rattle.typing_model.specs.Demands.{site, test, arity}
use Rattle.typing_model.specs.Contexts.{Variables, in_item, parameters, unresolved_in}
use Rattle.typing_model.specs.Parts.{Written, TypeExpression, no_type_at, place_of}
use Rattle.typing_model.specs.Names.{names_of, then_by, referent_of, declaration_in}
use Rattle.typing_model.specs.TypeExpressions.{index_from, variable_asks, tvar, read_all, declared_type, constructor_asks, tcon, tapp, in_parentheses, equal_of_one, tparen, ttuple, tarrow}
use Rattle.fault_model.specs.Refused.{refused_as}
use Rattle.typing_laws.proofs.Steady.{Each, no_one, one_and}
use Rattle.demand_laws.proofs.Alike.{Same, alone, behind, at_demand, at_bound, BothThere, neither, both, Both, nones, somes, Lists, no_pair, pair_and, ShapeAlike, opaque, variants, records, DeclarationAlike, ReferentAlike, one_thing, two_values, two_exceptions, two_constructors, two_labels, two_types, Two, left, right, ComesAlike, at_entry, at_hole, at_nothing, lookup_alike}

-- a type expression makes the same demands in both of two contexts
pub record AlikeType (t : TypeExpression) : Type 0 where
  pub reads : (c : Two) → Same (t.read (left c)) (t.read (right c))
  pub reads_group : (c : Two) → Same (t.grouped_read (left c)) (t.grouped_read (right c))

-- what any type asks
unresolved_alike : (c : Two) (n : ℕ) (v : Variables) → Same (unresolved_in (left c) n v) (unresolved_in (right c) n v)
unresolved_alike c n (in_item i) = alone (λ k. refl)
unresolved_alike c n (parameters ps) = alone (λ k. refl)

pub no_type_alike : (n : ℕ) (p : Place) → AlikeType (no_type_at n p)
no_type_alike n p = record {
  reads = λ c. unresolved_alike c n c.first.variables;
  reads_group = λ c. unresolved_alike c n c.first.variables;
}

variable_alike : (c : Two) (n : ℕ) (t : Tok) (v : Variables) → Same (variable_asks (left c) n t v) (variable_asks (right c) n t v)
variable_alike c n t (in_item i) = alone (λ k. refl)
variable_alike c n t (parameters ps) = by (index_from 0 t.name ps) refl
  where
    by : (o : Option ℕ) → index_from 0 t.name ps ≡ o → Same (variable_asks (left c) n t (parameters ps)) (variable_asks (right c) n t (parameters ps))
    by None e = rw (e, variable_asks) (at_demand refl (unresolved_alike c n c.first.variables))
    by (Some j) e = rw (e, variable_asks) (at_demand refl (alone (λ k. refl)))

pub tvar_alike : (n : ℕ) (p : Place) (t : Option Tok) → AlikeType (tvar n p t)
tvar_alike n p None = no_type_alike n p
tvar_alike n p (Some t) = record { reads = λ c. variable_alike c n t c.first.variables; reads_group = λ c. variable_alike c n t c.first.variables }

-- one after the other
reads_all : (c : Two) (ts : List TypeExpression) → Each AlikeType ts → Same (read_all (left c) ts) (read_all (right c) ts)
reads_all c [] no_one = alone (λ k. refl)
reads_all c (t ∷ ts) (one_and s each) = behind (s.reads c) (reads_all c ts each)

-- behind the name of a constructor
if_alike : (b : Bool) {xs ys us vs : List _} → Same xs us → Same ys vs → Same (if b then xs else ys) (if b then us else vs)
if_alike true h g = h
if_alike false h g = g

declared_alike : (c : Two) (n : ℕ) (t : Tok) (ns : List ℕ) {o p : Option Declaration} → Both DeclarationAlike o p → Same (declared_type (left c) n t ns o) (declared_type (right c) n t ns p)
declared_alike c n t ns nones = unresolved_alike c n c.first.variables
declared_alike c n t ns (somes a) = at_demand (ap (λ k. refused_as (place_of t) (test (arity t.name k (length ns)) (k == length ns))) a.arity) (if_alike (c.first.kept (site n 1)) (alone (λ k. refl)) (unresolved_alike c n c.first.variables))

-- a declaration is alike itself
lists_one : {A : Type 0} {R : A → A → Type 0} → ((x : A) → R x x) → (xs : List A) → Lists R xs xs
lists_one f [] = no_pair
lists_one f (x ∷ xs) = pair_and (f x) (lists_one f xs)

argument_one : (o : Option Typ) → BothThere o o
argument_one None = neither
argument_one (Some t) = both

shape_one : (s : Shape) → ShapeAlike s s
shape_one Opaque = opaque
shape_one (Variant ks) = variants (lists_one (λ k. record { name = refl; argument = argument_one k.argument }) ks)
shape_one (Labels ls) = records (lists_one (λ l. record { name = refl; is_mutable = refl }) ls)

pub declaration_one : (d : Declaration) → DeclarationAlike d d
declaration_one d = record { arity = refl; shape = shape_one d.shape }

-- the declaration that a path finds is alike
declaration_there : (r : Referent) → Both DeclarationAlike (declaration_in r) (declaration_in r)
declaration_there (a_type d) = somes (declaration_one d)
declaration_there _ = nones

declared_in : {r q : Referent} → ReferentAlike r q → Both DeclarationAlike (declaration_in r) (declaration_in q)
declared_in (one_thing {r = r}) = declaration_there r
declared_in two_values = nones
declared_in (two_exceptions h) = nones
declared_in (two_constructors h) = nones
declared_in (two_labels o d h) = nones
declared_in (two_types d) = somes d

declared_both : {f g : FoundAmong Entry} → ComesAlike f g → Both DeclarationAlike (then_by (referent_of f) declaration_in) (then_by (referent_of g) declaration_in)
declared_both (at_entry a) = declared_in a.stands
declared_both at_hole = nones
declared_both at_nothing = nones

-- what is found where a demand is kept
pub both_if : {A : Type 0} {R : A → A → Type 0} (b : Bool) {o p : Option A} → Both R o p → Both R (if b then o else None) (if b then p else None)
both_if true h = h
both_if false h = nones

constructor_alike : (c : Two) (n : ℕ) (p : Written) (ns : List ℕ) → Same (constructor_asks (left c) n p ns) (constructor_asks (right c) n p ns)
constructor_alike c n p ns = by p.last refl
  where
    by : (o : Option Tok) → p.last ≡ o → Same (constructor_asks (left c) n p ns) (constructor_asks (right c) n p ns)
    by None e = rw (e, constructor_asks) (unresolved_alike c n c.first.variables)
    by (Some t) e = rw (e, constructor_asks) (at_bound c n 0 type_kind type_word p t (declared_alike c n t ns (both_if (c.first.kept (site n 0)) (declared_both (lookup_alike (names_of p.qualifiers) type_kind t.name c.names)))))

pub tcon_alike : (n : ℕ) (q : Place) (p : Written) → AlikeType (tcon n q p)
tcon_alike n q p = record { reads = λ c. constructor_alike c n p []; reads_group = λ c. constructor_alike c n p [] }

pub tapp_alike : (n : ℕ) (q : Place) (first : TypeExpression) (p : Written) → AlikeType first → AlikeType (tapp n q first p)
tapp_alike n q first p s = record {
  reads = λ c. behind (s.reads_group c) (constructor_alike c n p first.grouped);
  reads_group = λ c. behind (s.reads_group c) (constructor_alike c n p first.grouped);
}

in_parentheses_alike : (c : Two) (n : ℕ) (q : Place) (ts : List TypeExpression) → Same (in_parentheses (left c) n q ts) (in_parentheses (right c) n q ts)
in_parentheses_alike c n q [] = alone (λ k. refl)
in_parentheses_alike c n q (t ∷ []) = alone (λ k. refl)
in_parentheses_alike c n q (t ∷ u ∷ ts) = at_demand refl (unresolved_alike c n c.first.variables)

equal_alike : (c : Two) (n : ℕ) (ts : List TypeExpression) → Same (equal_of_one (left c) n ts) (equal_of_one (right c) n ts)
equal_alike c n [] = alone (λ k. refl)
equal_alike c n (t ∷ []) = alone (λ k. refl)
equal_alike c n (t ∷ u ∷ ts) = alone (λ k. refl)

pub tparen_alike : (n : ℕ) (q : Place) (ts : List TypeExpression) → Each AlikeType ts → AlikeType (tparen n q ts)
tparen_alike n q ts each = record {
  reads = λ c. behind (reads_all c ts each) (in_parentheses_alike c n q ts);
  reads_group = λ c. behind (reads_all c ts each) (equal_alike c n ts);
}

pub ttuple_alike : (n : ℕ) (q : Place) (ts : List TypeExpression) → Each AlikeType ts → AlikeType (ttuple n q ts)
ttuple_alike n q ts each = record {
  reads = λ c. behind (reads_all c ts each) (alone (λ k. refl));
  reads_group = λ c. behind (reads_all c ts each) (alone (λ k. refl));
}

pub tarrow_alike : (n : ℕ) (q : Place) (t u : TypeExpression) → AlikeType t → AlikeType u → AlikeType (tarrow n q t u)
tarrow_alike n q t u s z = record {
  reads = λ c. behind (behind (s.reads c) (z.reads c)) (alone (λ k. refl));
  reads_group = λ c. behind (behind (s.reads c) (z.reads c)) (alone (λ k. refl));
}
