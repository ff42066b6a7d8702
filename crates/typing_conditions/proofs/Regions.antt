-- Regions: the sets of nodes in whose types only some variables stand.
use Rattle.std.proofs.Common.{◌≡◌, ℕ, zero, suc, ◌<◌, ◌≤◌, Bool, true, nat_le, ◌||◌, List, [], ◌∷◌, length, map, get_or, Some, None, refl, ◌∙◌, ap, arith, inl, inr}
use Rattle.std.specs.Prelude.{slice_get, All}
use Rattle.std.proofs.lemmas.Bool.{eqb-true, leb-true, le-leb}
use Rattle.std.proofs.lemmas.Option.{slice_get_within}
use Rattle.type_model.specs.Types.{Typ, Typs, types_of, occurs, occurs_any}
use Rattle.type_model.specs.Types.{Typ as type, Typs as types}
use Rattle.type_model.proofs.Applying.{or_left, or_right, or_cases, eqb_same}
use Rattle.type_nodes.specs.Nodes.{Node, Var, Rigid, Link, Arrow, Tuple, Con, parts, IsClosed}
use Rattle.type_nodes.specs.Readings.{Types}
use Rattle.level_unify.specs.Solutions.{Loose, FitsLoosely}
use Rattle.typing_model.specs.Contexts.{occurs_in}
use Rattle.typing_laws.proofs.Bools.{and_cases, and_both, no_yes}
use Rattle.typing_conditions.specs.Locals.{IsVar, IsOwn, stands_in_any, all_pass, each_passes, IsRegion}

-- a type all of whose variables pass
mutual
  -- a type passes where each variable in it does
  pub passes : (P : ℕ → Bool) (t : Typ) → ((v : ℕ) → occurs v t ≡ true → P v ≡ true) → all_pass P t ≡ true
  passes P (type.Var v) h = h v (eqb_same v)
  passes P (type.Arrow a b) h = and_both (all_pass P a) (all_pass P b) (passes P a (λ v o. h v (or_left (occurs v a) (occurs v b) o))) (passes P b (λ v o. h v (or_right (occurs v a) (occurs v b) o)))
  passes P (type.Tuple ts) h = all_pass_each P ts h
  passes P (type.Con o ts) h = all_pass_each P ts h

  all_pass_each : (P : ℕ → Bool) (ts : Typs) → ((v : ℕ) → occurs_any v ts ≡ true → P v ≡ true) → each_passes P ts ≡ true
  all_pass_each P types.Nil h = refl
  all_pass_each P (types.Cons t ts) h = and_both (all_pass P t) (each_passes P ts) (passes P t (λ v o. h v (or_left (occurs v t) (occurs_any v ts) o))) (all_pass_each P ts (λ v o. h v (or_right (occurs v t) (occurs_any v ts) o)))

mutual
  -- and each variable of a type that passes does
  pub passed : (P : ℕ → Bool) (t : Typ) (v : ℕ) → all_pass P t ≡ true → occurs v t ≡ true → P v ≡ true
  passed P (type.Var w) v h o = ap P (eqb-true v w o) ∙ h
  passed P (type.Arrow a b) v h o = let p = and_cases (all_pass P a) (all_pass P b) h in elim (or_cases (occurs v a) (occurs v b) o) [ inl i ↦ passed P a v p.0 i | inr i ↦ passed P b v p.1 i ]
  passed P (type.Tuple ts) v h o = each_passed P ts v h o
  passed P (type.Con p ts) v h o = each_passed P ts v h o

  each_passed : (P : ℕ → Bool) (ts : Typs) (v : ℕ) → each_passes P ts ≡ true → occurs_any v ts ≡ true → P v ≡ true
  each_passed P types.Nil v h o = absurd (no_yes o)
  each_passed P (types.Cons t ts) v h o = let p = and_cases (all_pass P t) (each_passes P ts) h in elim (or_cases (occurs v t) (occurs_any v ts) o) [ inl i ↦ passed P t v p.0 i | inr i ↦ each_passed P ts v p.1 i ]

any_at : (v : ℕ) (V : Types) (ms : List ℕ) (k d : ℕ) → k < length ms → occurs v (V (get_or ms k d)) ≡ true → occurs_any v (types_of (map V ms)) ≡ true
any_at v V [] k d lt h = absurd (omega arith)
any_at v V (m ∷ ms) zero d lt h = or_left (occurs v (V m)) (occurs_any v (types_of (map V ms))) h
any_at v V (m ∷ ms) (suc k) d lt h = or_right (occurs v (V m)) (occurs_any v (types_of (map V ms))) (any_at v V ms k d (omega arith) h)

-- what occurs in the type of a part occurs in that of the node
pub part_occurs : (v : ℕ) (V : Types) (n : ℕ) (c : Node) → FitsLoosely V n c → All (λ m. occurs v (V m) ≡ true → occurs v (V n) ≡ true) (parts c)
part_occurs v V n (Var l o) fits k d lt = absurd (omega arith)
part_occurs v V n Rigid fits k d lt = absurd (omega arith)
part_occurs v V n (Link m) fits zero d lt = λ h. ap (occurs v) fits ∙ h
part_occurs v V n (Link m) fits (suc k) d lt = absurd (omega arith)
part_occurs v V n (Arrow x y) fits zero d lt = λ h. ap (occurs v) fits ∙ or_left (occurs v (V x)) (occurs v (V y)) h
part_occurs v V n (Arrow x y) fits (suc zero) d lt = λ h. ap (occurs v) fits ∙ or_right (occurs v (V x)) (occurs v (V y)) h
part_occurs v V n (Arrow x y) fits (suc (suc k)) d lt = absurd (omega arith)
part_occurs v V n (Tuple ms) fits k d lt = λ h. ap (occurs v) fits ∙ any_at v V ms k d lt h
part_occurs v V n (Con p name ms) fits k d lt = λ h. ap (occurs v) fits ∙ any_at v V ms k d lt h

-- the nodes in whose types only variables that pass stand have the parts of their nodes
pub passing_closed : (nodes : List Node) (I : Types) (P : ℕ → Bool) → Loose nodes I → IsClosed nodes (λ n. all_pass P (I n))
passing_closed nodes I P loose = record {
  each = λ n c h e k d lt. passes P (I (get_or (parts c) k d)) (λ v o. passed P (I n) v h (part_occurs v I n c (loose.each n c e) k d lt o));
}

-- where one of some nodes is
pub any_in : (v : ℕ) (I : Types) (ns : List ℕ) (k n : ℕ) → slice_get ns k ≡ Some n → occurs v (I n) ≡ true → stands_in_any I ns v ≡ true
any_in v I [] k n e o = absurd (let f : None ≡ Some n = e in cc)
any_in v I (m ∷ ms) zero n e o = let f : m ≡ n = cc in or_left (occurs v (I m)) (occurs_in v (map I ms)) (ap (λ j. occurs v (I j)) f ∙ o)
any_in v I (m ∷ ms) (suc k) n e o = or_right (occurs v (I m)) (occurs_in v (map I ms)) (any_in v I ms k n e o)

-- where it is, by its place in the list
pub record AnyIn (I : Types) (ns : List ℕ) (v : ℕ) : Type 0 where
  pub place : ℕ
  pub node : ℕ
  pub at : slice_get ns place ≡ Some node
  pub occurs : occurs v (I node) ≡ true

-- a variable that stands in one of some nodes stands in one of them at a place
pub in_any : (v : ℕ) (I : Types) (ns : List ℕ) → stands_in_any I ns v ≡ true → AnyIn I ns v
in_any v I [] h = absurd (no_yes h)
in_any v I (m ∷ ms) h = elim (or_cases (occurs v (I m)) (occurs_in v (map I ms)) h) [
  | inl i ↦ record { place = zero; node = m; at = refl; occurs = i }
  | inr i ↦ let a = in_any v I ms i in record { place = suc a.place; node = a.node; at = a.at; occurs = a.occurs }
]

-- the nodes that are new or in whose types only variables of the roots stand
abbrev pub region : List Node → Types → List ℕ → ℕ → Bool
region nodes I roots n = nat_le (length nodes) n || all_pass (stands_in_any I roots) (I n)

pub is_new : (a b : ℕ) → nat_le a b ≡ true → a ≤ b
is_new a b h = leb-true a b h

pub new_is : (a b : ℕ) → a ≤ b → nat_le a b ≡ true
new_is a b h = le-leb a b h

-- they are such a set
pub region_is : (nodes : List Node) (I : Types) (roots : List ℕ) → Loose nodes I → IsRegion nodes roots (region nodes I roots)
region_is nodes I roots loose = record {
  closed = record {
    each = λ n c h e k d lt. or_right (nat_le (length nodes) (get_or (parts c) k d)) (all_pass (stands_in_any I roots) (I (get_or (parts c) k d)))
        ((passing_closed nodes I (stands_in_any I roots) loose).each n c (old_passes n c e h) e k d lt);
  };
  has = λ k c e. or_right (nat_le (length nodes) c) (all_pass (stands_in_any I roots) (I c)) (passes (stands_in_any I roots) (I c) (λ v o. any_in v I roots k c e o));
  made = λ n le. or_left (nat_le (length nodes) n) (all_pass (stands_in_any I roots) (I n)) (new_is (length nodes) n le);
}
  where
    old_passes : (n : ℕ) (c : Node) → slice_get nodes n ≡ Some c → region nodes I roots n ≡ true → all_pass (stands_in_any I roots) (I n) ≡ true
    old_passes n c e h = elim (or_cases (nat_le (length nodes) n) (all_pass (stands_in_any I roots) (I n)) h) [
      | inl i ↦ absurd (let p = is_new (length nodes) n i in let q = slice_get_within nodes n c e in omega arith)
      | inr i ↦ i
    ]

-- an old variable of the region stands in the roots
pub region_var : (nodes : List Node) (I : Types) (roots : List ℕ) → IsOwn nodes I → (v : ℕ) → IsVar nodes v → region nodes I roots v ≡ true → stands_in_any I roots v ≡ true
region_var nodes I roots own v var h = elim (or_cases (nat_le (length nodes) v) (all_pass (stands_in_any I roots) (I v)) h) [
  | inl i ↦ absurd (let p = is_new (length nodes) v i in let q = slice_get_within nodes v (Var var.level var.scope) var.at in omega arith)
  | inr i ↦ passed (stands_in_any I roots) (I v) v i (ap (occurs v) (own.vars v var.level var.scope var.at) ∙ eqb_same v)
]
