-- Types under a limit, by a test, and by their parts.
use Rattle.std.proofs.Common.{◌≡◌, ℕ, zero, suc, ◌<◌, ◌≤◌, min, Bool, true, false, leb, ltb, ◌^◌, ◌&&◌, ◌||◌, List, [], ◌∷◌, map, refl, ap, subst, arith, inl, inr}
use Rattle.std.specs.Prelude.{All}
use Rattle.std.proofs.lemmas.Bool.{leb-true, le-leb, ltb-true, lt-ltb, or_cases}
use Rattle.type_model.specs.Types.{Path, Typ, Typs, Var, Arrow, Tuple, Con, Nil, Cons, types_of}
use Rattle.type_model.specs.Origins.{rigid, made_before, is_built_in}
use Rattle.type_model.specs.Limits.{no_scope, in_scope, IsUnder, AreUnder}
use Rattle.type_nodes.specs.Nodes.{Node, parts}
use Rattle.type_nodes.specs.Nodes.{Node as node}
use Rattle.type_nodes.specs.Readings.{Types}
use Rattle.level_unify.specs.Solutions.{FitsLoosely}

-- the test
abbrev mutual
  pub is_under : (L : ℕ → ℕ) (level scope : ℕ) → Typ → Bool
  is_under L level scope (Var v) = leb (L v) level
  is_under L level scope (Arrow a b) = is_under L level scope a && is_under L level scope b
  is_under L level scope (Tuple ts) = are_under L level scope ts
  is_under L level scope (Con o ts) = in_scope scope o && are_under L level scope ts

  pub are_under : (L : ℕ → ℕ) (level scope : ℕ) → Typs → Bool
  are_under L level scope Nil = true
  are_under L level scope (Cons t ts) = is_under L level scope t && are_under L level scope ts

both : (a b : Bool) → a ≡ true → b ≡ true → (a && b) ≡ true
both true b p q = q
both false b p q = absurd (cc)

left_of : (a b : Bool) → (a && b) ≡ true → a ≡ true
left_of true b p = refl
left_of false b p = p

right_of : (a b : Bool) → (a && b) ≡ true → b ≡ true
right_of true b p = p
right_of false b p = absurd (cc)

mutual
  pub tested : (L : ℕ → ℕ) (l s : ℕ) (t : Typ) → is_under L l s t ≡ true → IsUnder L l s t
  tested L l s (Var v) h = leb-true (L v) l h
  tested L l s (Arrow a b) h = (tested L l s a (left_of (is_under L l s a) (is_under L l s b) h), tested L l s b (right_of (is_under L l s a) (is_under L l s b) h))
  tested L l s (Tuple ts) h = all_tested L l s ts h
  tested L l s (Con o ts) h = (left_of (in_scope s o) (are_under L l s ts) h, all_tested L l s ts (right_of (in_scope s o) (are_under L l s ts) h))

  pub all_tested : (L : ℕ → ℕ) (l s : ℕ) (ts : Typs) → are_under L l s ts ≡ true → AreUnder L l s ts
  all_tested L l s Nil h = tt
  all_tested L l s (Cons t ts) h = (tested L l s t (left_of (is_under L l s t) (are_under L l s ts) h), all_tested L l s ts (right_of (is_under L l s t) (are_under L l s ts) h))

mutual
  pub passes : (L : ℕ → ℕ) (l s : ℕ) (t : Typ) → IsUnder L l s t → is_under L l s t ≡ true
  passes L l s (Var v) h = le-leb (L v) l h
  passes L l s (Arrow a b) h = both (is_under L l s a) (is_under L l s b) (passes L l s a h.0) (passes L l s b h.1)
  passes L l s (Tuple ts) h = all_pass L l s ts h
  passes L l s (Con o ts) h = both (in_scope s o) (are_under L l s ts) h.0 (all_pass L l s ts h.1)

  pub all_pass : (L : ℕ → ℕ) (l s : ℕ) (ts : Typs) → AreUnder L l s ts → are_under L l s ts ≡ true
  all_pass L l s Nil h = refl
  all_pass L l s (Cons t ts) h = both (is_under L l s t) (are_under L l s ts) (passes L l s t h.0) (all_pass L l s ts h.1)

-- a list of types by its parts
pub under_each : (L : ℕ → ℕ) (l s : ℕ) (V : Types) (ms : List ℕ) → AreUnder L l s (types_of (map V ms)) → All (λ m. IsUnder L l s (V m)) ms
under_each L l s V [] h k d lt = absurd (omega arith)
under_each L l s V (m ∷ ms) h zero d lt = h.0
under_each L l s V (m ∷ ms) h (suc k) d lt = under_each L l s V ms h.1 k d (omega arith)

pub each_under : (L : ℕ → ℕ) (l s : ℕ) (V : Types) (ms : List ℕ) → All (λ m. IsUnder L l s (V m)) ms → AreUnder L l s (types_of (map V ms))
each_under L l s V [] h = tt
each_under L l s V (m ∷ ms) h = (h zero zero (omega arith), each_under L l s V ms (λ k d lt. h (suc k) d (omega arith)))

-- the parts of a node are under what it is under
pub parts_under : (L : ℕ → ℕ) (l s : ℕ) (V : Types) (n : ℕ) (c : Node) → FitsLoosely V n c → IsUnder L l s (V n) → All (λ m. IsUnder L l s (V m)) (parts c)
parts_under L l s V n (node.Var level scope) fits h k d lt = absurd (omega arith)
parts_under L l s V n node.Rigid fits h k d lt = absurd (omega arith)
parts_under L l s V n (node.Link m) fits h zero d lt = subst (IsUnder L l s) fits h
parts_under L l s V n (node.Link m) fits h (suc k) d lt = absurd (omega arith)
parts_under L l s V n (node.Arrow a b) fits h zero d lt = (subst (IsUnder L l s) fits h).0
parts_under L l s V n (node.Arrow a b) fits h (suc zero) d lt = (subst (IsUnder L l s) fits h).1
parts_under L l s V n (node.Arrow a b) fits h (suc (suc k)) d lt = absurd (omega arith)
parts_under L l s V n (node.Tuple ms) fits h k d lt = under_each L l s V ms (subst (IsUnder L l s) fits h) k d lt
parts_under L l s V n (node.Con p name ms) fits h k d lt = under_each L l s V ms (subst (IsUnder L l s) fits h).1 k d lt

-- a higher limit allows more
or_more : (a b a' b' : Bool) → (a ≡ true → a' ≡ true) → (b ≡ true → b' ≡ true) → (a || b) ≡ true → (a' || b') ≡ true
or_more true b a' b' p q h = ap (λ x. x || b') (p refl)
or_more false b true b' p q h = refl
or_more false b false b' p q h = q h

before_more : (s s' : ℕ) (o : Path) → s ≤ s' → made_before s o ≡ true → made_before s' o ≡ true
before_more s s' [] le h = refl
before_more s s' (k ∷ o) le h = or_more (is_built_in k) (ltb k s) (is_built_in k) (ltb k s') (λ e. e) (λ e. lt-ltb k s' (let l = ltb-true k s e in omega arith)) h

none_or_before : (N s s' : ℕ) (o : Path) → s ≤ s' → (leb N s || made_before s o) ≡ true → (leb N s' || made_before s' o) ≡ true
none_or_before N s s' o le = or_more (leb N s) (made_before s o) (leb N s') (made_before s' o) (λ e. le-leb N s' (let l = leb-true N s e in omega arith)) (before_more s s' o le)

pub scope_more : (s s' : ℕ) (o : Path) → s ≤ s' → in_scope s o ≡ true → in_scope s' o ≡ true
scope_more s s' o le h = none_or_before no_scope s s' o le h

mutual
  pub under_more : (L : ℕ → ℕ) (l s l' s' : ℕ) (t : Typ) → l ≤ l' → s ≤ s' → IsUnder L l s t → IsUnder L l' s' t
  under_more L l s l' s' (Var v) p q h = omega arith
  under_more L l s l' s' (Arrow a b) p q h = (under_more L l s l' s' a p q h.0, under_more L l s l' s' b p q h.1)
  under_more L l s l' s' (Tuple ts) p q h = all_under_more L l s l' s' ts p q h
  under_more L l s l' s' (Con o ts) p q h = (scope_more s s' o q h.0, all_under_more L l s l' s' ts p q h.1)

  all_under_more : (L : ℕ → ℕ) (l s l' s' : ℕ) (ts : Typs) → l ≤ l' → s ≤ s' → AreUnder L l s ts → AreUnder L l' s' ts
  all_under_more L l s l' s' Nil p q h = tt
  all_under_more L l s l' s' (Cons t ts) p q h = (under_more L l s l' s' t p q h.0, all_under_more L l s l' s' ts p q h.1)

pub min_left : (a b : ℕ) → min a b ≤ a
min_left a b = grind arith

pub min_right : (a b : ℕ) → min a b ≤ b
min_right a b = grind arith

-- a rigid variable is under a limit exactly where the scope limits nothing
rigid_scope : (N s B : ℕ) (path : Path) → leb N s ≡ true → (leb N s || made_before s path) ≡ true
rigid_scope N s B path h = ap (λ b. b || made_before s path) h

pub rigid_allowed : (L : ℕ → ℕ) (l s j : ℕ) → no_scope ≤ s → IsUnder L l s (rigid j)
rigid_allowed L l s j h = (rigid_scope no_scope s (2 ^ 64) ((2 ^ 64) ∷ j ∷ []) (le-leb no_scope s h), tt)

pub rigid_scoped : (L : ℕ → ℕ) (l s j : ℕ) → s < 2 ^ 64 → IsUnder L l s (rigid j) → no_scope ≤ s
rigid_scoped L l s j lt (h, u) = elim (or_cases (leb no_scope s) (made_before s ((2 ^ 64) ∷ j ∷ [])) h) [
  | inl e ↦ leb-true no_scope s e
  | inr e ↦ elim (or_cases (is_built_in (2 ^ 64)) (ltb (2 ^ 64) s) e) [
    | inl f ↦ absurd (cc)
    | inr f ↦ absurd (let g = ltb-true (2 ^ 64) s f in omega arith)
  ]
]
