-- What stands in the place of variables.
use Rattle.std.proofs.Common.{◌≡◌, ◌≢◌, ℕ, zero, suc, ◌+◌, ◌≤◌, Bool, true, false, eqb, List, [], ◌∷◌, length, get_or, Option, Some, None, if◌then◌else◌, refl, sym, ◌∙◌, ap, subst, arith, inl, inr}
use Rattle.std.specs.Prelude.{slice_get, All}
use Rattle.std.proofs.lemmas.Bool.{eq-eqb, eqb-true}
use Rattle.std.proofs.lemmas.Option.{slice_get_within}
use Rattle.type_model.specs.Types.{Typ}
use Rattle.type_model.specs.Types.{Typ as type, Typs as types, occurs}
use Rattle.type_model.specs.Substitutions.{apply}
use Rattle.type_model.proofs.Applying.{apply_leaves}
use Rattle.type_nodes.specs.Nodes.{Node, Var, Tuple, bound_level, IsNode}
use Rattle.type_nodes.specs.Links.{root}
use Rattle.type_nodes.specs.Readings.{Types, IsReading}
use Rattle.type_nodes.proofs.Lists.{same_or_other, one_element}
use Rattle.level_unify.specs.Copies.{Extends}
use Rattle.level_unify.proofs.Walking.{get_here}
use Rattle.type_substitution.specs.Substituting.{by_types, ReadsBound}
use Rattle.type_substitution.specs.Copying.{NoneBefore, IsPlace, StandsFor}

-- two numbers that differ
differ : (a b : ℕ) → a ≢ b → eqb a b ≡ false
differ a b other = at (eqb a b) refl
  where
    at : (t : Bool) → eqb a b ≡ t → eqb a b ≡ false
    at true e = absurd (other (eqb-true a b e))
    at false e = e

-- the same stands in the place of variables where their roots are the same
pub same_roots : (a b : List Node) (V : Types) (vs ts : List ℕ) → All (λ p. root b p ≡ root a p) vs → (v : ℕ) → by_types a V vs ts v ≡ by_types b V vs ts v
same_roots a b V [] ts h v = refl
same_roots a b V (p ∷ ps) [] h v =
    ap (λ r. if eqb r v then type.Tuple types.Nil else by_types a V ps [] v) (sym (h zero zero (omega arith)))
    ∙ ap (λ x. if eqb (root b p) v then type.Tuple types.Nil else x) (same_roots a b V ps [] (λ k d lt. h (suc k) d (omega arith)) v)
same_roots a b V (p ∷ ps) (t ∷ ts) h v =
    ap (λ r. if eqb r v then V t else by_types a V ps ts v) (sym (h zero zero (omega arith)))
    ∙ ap (λ x. if eqb (root b p) v then V t else x) (same_roots a b V ps ts (λ k d lt. h (suc k) d (omega arith)) v)

-- a variable that isn't given stands for itself
pub not_given : (nodes : List Node) (V : Types) (vs ts : List ℕ) (v : ℕ) → All (λ p. root nodes p ≢ v) vs → by_types nodes V vs ts v ≡ type.Var v
not_given nodes V [] ts v h = refl
not_given nodes V (p ∷ ps) [] v h =
    ap (λ t. if t then type.Tuple types.Nil else by_types nodes V ps [] v) (differ (root nodes p) v (h zero zero (omega arith)))
    ∙ not_given nodes V ps [] v (λ k d lt. h (suc k) d (omega arith))
not_given nodes V (p ∷ ps) (t ∷ ts) v h =
    ap (λ b. if b then V t else by_types nodes V ps ts v) (differ (root nodes p) v (h zero zero (omega arith)))
    ∙ not_given nodes V ps ts v (λ k d lt. h (suc k) d (omega arith))

-- the type that was given, if any
abbrev pub given : Types → Option ℕ → Typ
given V None = type.Tuple types.Nil
given V (Some t) = V t

-- the first node given that has the variable as its root tells its type
pub first_given : (nodes : List Node) (V : Types) (vs ts : List ℕ) (at p v : ℕ) → slice_get vs at ≡ Some p → root nodes p ≡ v → NoneBefore nodes vs at v → by_types nodes V vs ts v ≡ given V (slice_get ts at)
first_given nodes V [] ts at p v here is none = absurd cc
first_given nodes V (q ∷ ps) [] zero p v here is none =
    let same : q ≡ p = one_element q p (Some q) refl here in
    ap (λ t. if t then type.Tuple types.Nil else by_types nodes V ps [] v) (eq-eqb (root nodes q) v (ap (root nodes) same ∙ is))
first_given nodes V (q ∷ ps) (t ∷ ts) zero p v here is none =
    let same : q ≡ p = one_element q p (Some q) refl here in
    ap (λ b. if b then V t else by_types nodes V ps ts v) (eq-eqb (root nodes q) v (ap (root nodes) same ∙ is))
first_given nodes V (q ∷ ps) [] (suc at) p v here is none =
    ap (λ b. if b then type.Tuple types.Nil else by_types nodes V ps [] v) (differ (root nodes q) v (none zero q (omega arith) refl))
    ∙ first_given nodes V ps [] at p v here is (λ k m lt e. none (suc k) m (omega arith) e)
first_given nodes V (q ∷ ps) (t ∷ ts) (suc at) p v here is none =
    ap (λ b. if b then V t else by_types nodes V ps ts v) (differ (root nodes q) v (none zero q (omega arith) refl))
    ∙ first_given nodes V ps ts at p v here is (λ k m lt e. none (suc k) m (omega arith) e)

-- one place more
pub none_on : (nodes : List Node) (vs : List ℕ) (at p v : ℕ) → slice_get vs at ≡ Some p → root nodes p ≢ v → NoneBefore nodes vs at v → NoneBefore nodes vs (at + 1) v
none_on nodes vs at p v here other none k q lt e = elim (same_or_other k at) [
  | inl same ↦ subst (λ j. root nodes j ≢ v) (one_element p q (slice_get vs at) here (subst (λ j. slice_get vs j ≡ Some q) same e)) other
  | inr away ↦ none k q (omega arith) e
]

pub none_given : (nodes : List Node) (vs : List ℕ) (at v : ℕ) → length vs ≤ at → NoneBefore nodes vs at v → All (λ p. root nodes p ≢ v) vs
none_given nodes vs at v over none k d lt = none k (get_or vs k d) (omega arith) (get_here vs k d lt)

pub of_all : (P : ℕ → Type 0) (ms : List ℕ) (k m : ℕ) → All P ms → slice_get ms k ≡ Some m → P m
of_all P ms k m h e =
    let lt = slice_get_within ms k m e in
    subst P (one_element (get_or ms k zero) m (slice_get ms k) (get_here ms k zero lt) e) (h k zero lt)

-- the type of a free variable stays: no bound variable stands in it
pub free_stays : (nodes : List Node) (V : Types) (vs ts : List ℕ) (n level scope : ℕ) → IsReading nodes V → All (ReadsBound nodes) vs → slice_get nodes n ≡ Some (Var level scope) → level ≢ bound_level →
    apply (by_types nodes V vs ts) (V n) ≡ V n
free_stays nodes V vs ts n level scope reads bound at free = apply_leaves (by_types nodes V vs ts) (V n) (λ v o. not_given nodes V vs ts v (λ k d lt. apart v o (get_or vs k d) (bound k d lt)))
  where
    apart : (v : ℕ) → occurs v (V n) ≡ true → (p : ℕ) → ReadsBound nodes p → root nodes p ≢ v
    apart v o p b is =
        let (scope', e) = b in
        let not : occurs (root nodes p) (V n) ≡ false = reads.apart n level scope (root nodes p) scope' at free e in
        let has : occurs (root nodes p) (V n) ≡ true = subst (λ j. occurs j (V n) ≡ true) (sym is) o in
        cc

module _ (old new : List Node) (vs ts : List ℕ) (v : ℕ) (extends : Extends old new) where
  -- a variable that isn't given
  pub stands_itself : IsNode old v → IsPlace old vs v None → StandsFor old new vs ts v v
  stands_itself inside none = record {
    inside = let l = extends.longer in omega arith;
    reads = λ V reads own. own ∙ sym (not_given old V vs ts v none);
  }

  -- a variable with its type
  pub stands_type : (at t : ℕ) → All (IsNode old) ts → slice_get ts at ≡ Some t → IsPlace old vs v (Some at) → StandsFor old new vs ts v t
  stands_type at t nodes here (p, given_at, is, none) = record {
    inside = let l = extends.longer in let i = of_all (IsNode old) ts at t nodes here in omega arith;
    reads = λ V reads own. sym (first_given old V vs ts at p v given_at is none ∙ ap (given V) here);
  }

  -- one without a type
  pub stands_empty : (at m : ℕ) → slice_get ts at ≡ None → IsPlace old vs v (Some at) → slice_get new m ≡ Some (Tuple []) → StandsFor old new vs ts v m
  stands_empty at m here (p, given_at, is, none) made = record {
    inside = slice_get_within new m (Tuple []) made;
    reads = λ V reads own. reads.fits.each m (Tuple []) made ∙ sym (first_given old V vs ts at p v given_at is none ∙ ap (given V) here);
  }
