-- What is free in the type of a node, from one state to a later one.
use Rattle.std.proofs.Common.{◌≡◌, ◌∙◌, ℕ, zero, suc, ◌<◌, ◌≤◌, true, List, [], ◌∷◌, length, None, Some, refl, sym, ap, arith}
use Rattle.std.specs.Prelude.{slice_get}
use Rattle.std.proofs.lemmas.Bool.{eqb-true, eq-eqb}
use Rattle.type_model.specs.Types.{occurs}
use Rattle.type_model.proofs.Applying.{occurs_put, occurs_from}
use Rattle.type_nodes.specs.Nodes.{Node, IsSound, Var, Rigid, Link, Arrow, Tuple, Con, bound_level}
use Rattle.type_nodes.specs.Readings.{Types}
use Rattle.level_unify.specs.Solutions.{Loose}
use Rattle.level_unify.specs.Instances.{is_bound, is_bound_var}
use Rattle.level_unify.proofs.Variants.{stands_occurs}
use Rattle.typing_conditions.specs.Locals.{IsVar, IsFreeVar, IsOwn}
use Rattle.typing_conditions.proofs.Own.{own_of}
use Rattle.weak_variables.specs.Free.{IsFreeIn, IsFreeToo, SameFree}

-- a number of a list's element is below its length
pub place_inside : {A : Type 0} (xs : List A) (k : ℕ) (x : A) → slice_get xs k ≡ Some x → k < length xs
place_inside [] k x e = absurd (cc)
place_inside (y ∷ ys) zero x e = omega arith
place_inside (y ∷ ys) (suc k) x e = let h = place_inside ys k x e in omega arith

pub free_inside : (nodes : List Node) (v : ℕ) → IsFreeVar nodes v → v < length nodes
free_inside nodes v f = place_inside nodes v (Var f.level f.scope) f.at

-- a free variable isn't bound
free_not_bound : (nodes : List Node) (v : ℕ) → IsFreeVar nodes v → is_bound nodes v ≡ true → ⊥
free_not_bound nodes v f b = f.free (eqb-true f.level bound_level (sym (ap is_bound_var f.at) ∙ b))

-- a variable that isn't bound is free
pub free_of_var : (nodes : List Node) (v : ℕ) → IsVar nodes v → (is_bound nodes v ≡ true → ⊥) → IsFreeVar nodes v
free_of_var nodes v f unbound = record { level = f.level; scope = f.scope; at = f.at; free = λ e. unbound (ap is_bound_var f.at ∙ eq-eqb f.level bound_level e) }

-- a variable stands in itself
pub own_free : (nodes : List Node) (v : ℕ) → IsFreeVar nodes v → IsFreeIn nodes v v
own_free nodes v f = record { var = f; stands = record { each = λ F closed has. has } }

-- what is free in a node's type is a variable of its own type
pub free_occurs : (nodes : List Node) (J : Types) → IsOwn nodes J → (n v : ℕ) → IsFreeIn nodes n v → occurs v (J n) ≡ true
free_occurs nodes J own n v f = stands_occurs nodes J v n own.loose (own.vars v f.var.level f.var.scope f.var.at) f.stands

-- and the other way
pub occurs_free : (nodes : List Node) (J : Types) → IsOwn nodes J → (n v : ℕ) → n < length nodes → IsFreeVar nodes v → occurs v (J n) ≡ true → IsFreeIn nodes n v
occurs_free nodes J own n v lt f o = record { var = f; stands = own.stands n v lt o }

-- What leads from one state to a later one: the types that fit now fitted then, and bound variables stay bound.
pub record GoesOn (old new : List Node) : Type 0 where
  pub sound : IsSound old
  pub sound_too : IsSound new
  pub longer : length old ≤ length new
  pub loose : (V : Types) → Loose new V → Loose old V
  pub bounds : (v : ℕ) → is_bound old v ≡ true → is_bound new v ≡ true

-- a variable of before in which a later one stands
record ComesFrom (old new : List Node) (n v : ℕ) : Type 0 where
  source : ℕ
  was : IsFreeIn old n source
  stands : IsFreeIn new source v

-- what is free in the later type of a node stands in what was free in its type
comes_from : (old new : List Node) → GoesOn old new → (n v : ℕ) → n < length old → IsFreeIn new n v → ComesFrom old new n v
comes_from old new on n v lt f =
    let (I, own) = own_of old on.sound in
    let (J, later) = own_of new on.sound_too in
    let (u, inner, outer) = occurs_from J v (I n) (ap (occurs v) (sym (own.comes J (on.loose J later.loose) n)) ∙ free_occurs new J later n v f) in
    let var = own.only n u lt inner in
    let unbound : is_bound old u ≡ true → ⊥ = λ b. still J later u v f outer (on.bounds u b) in
    let was = free_of_var old u var unbound in
    let inside = free_inside old u was in
    let longer = on.longer in
    record {
      source = u;
      was = occurs_free old I own n u lt was inner;
      stands = occurs_free new J later u v (omega arith) f.var outer;
    }
  where
    still : (J : Types) → IsOwn new J → (u v : ℕ) → IsFreeIn new n v → occurs v (J u) ≡ true → is_bound new u ≡ true → ⊥
    still J later u v f o b = by (slice_get new u) refl b
      where
        by : (c : _) → slice_get new u ≡ c → is_bound_var c ≡ true → ⊥
        by None e h = absurd (cc)
        by (Some (Var l s)) e h =
            let same : v ≡ u = eqb-true v u (ap (occurs v) (sym (later.vars u l s e)) ∙ o) in
            free_not_bound new v f.var (ap (is_bound new) same ∙ b)
        by (Some Rigid) e h = absurd (cc)
        by (Some (Link m)) e h = absurd (cc)
        by (Some (Arrow x y)) e h = absurd (cc)
        by (Some (Tuple ms)) e h = absurd (cc)
        by (Some (Con p name ms)) e h = absurd (cc)

-- and what stands in what was free is free in the later type
free_through : (old new : List Node) → GoesOn old new → (n u v : ℕ) → n < length old → IsFreeIn old n u → IsFreeIn new u v → IsFreeIn new n v
free_through old new on n u v lt f g =
    let (I, own) = own_of old on.sound in
    let (J, later) = own_of new on.sound_too in
    let longer = on.longer in
    occurs_free new J later n v (omega arith) g.var
    (ap (occurs v) (own.comes J (on.loose J later.loose) n) ∙ occurs_put J u v (I n) (free_occurs old I own n u f) (free_occurs new J later u v g))

-- So where the same is free in the types of some nodes and of others, it is so later too.
pub same_later : (old new : List Node) → GoesOn old new → (R F : ℕ → Type 0) → ((n : ℕ) → R n → n < length old) → ((n : ℕ) → F n → n < length old) → SameFree old R F → SameFree new R F
same_later old new on R F in_roots in_found same = record { there = too R F in_roots in_found same.there; back = too F R in_found in_roots same.back }
  where
    too : (P Q : ℕ → Type 0) → ((n : ℕ) → P n → n < length old) → ((n : ℕ) → Q n → n < length old) → IsFreeToo old P Q → IsFreeToo new P Q
    too P Q in_p in_q h n v p f =
        let c = comes_from old new on n v (in_p n p) f in
        let (m, q, was) = h n c.source p c.was in
        (m, q, free_through old new on m c.source v (in_q m q) was c.stands)
