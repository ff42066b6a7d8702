-- Two roots of different heads have no type in common.
use Rattle.std.proofs.Common.{◌≡◌, ◌≢◌, ℕ, ◌^◌, ◌<◌, List, [], ◌∷◌, length, map, Some, refl, sym, ◌∙◌, ap, arith}
use Rattle.std.specs.Prelude.{slice_get}
use Rattle.type_model.specs.Types.{Typ, Typs, types_of}
use Rattle.type_model.specs.Types.{Typ as type, Typs as types}
use Rattle.type_nodes.specs.Nodes.{Node, Var, Rigid, Link, Arrow, Tuple, Con, bound_level, IsSound}
use Rattle.type_nodes.specs.Links.{root, IsNoLink}
use Rattle.type_nodes.specs.Readings.{Types}
use Rattle.type_nodes.proofs.Roots.{root_no_link}
use Rattle.level_unify.specs.declared.plan.Plan.TheVariants.{Clash}
use Rattle.level_unify.specs.Plans.{IsFreeVar, SameHead, IsOrdinary}
use Rattle.level_unify.specs.Solutions.{FitsLoosely, NeverOne, HaveNoBound}
use Rattle.level_unify.proofs.Steps.{Planned}

types_length : (V : Types) (ms ns : List ℕ) → types_of (map V ms) ≡ types_of (map V ns) → length ms ≡ length ns
types_length V [] [] e = refl
types_length V [] (n ∷ ns) e = absurd (cc)
types_length V (m ∷ ms) [] e = absurd (cc)
types_length V (m ∷ ms) (n ∷ ns) e =
    let q : types_of (map V ms) ≡ types_of (map V ns) = cc in
    let h = types_length V ms ns q in omega arith

-- a rigid variable is no other, and no ordinary constructor
rigid_same : (r s base : ℕ) → type.Con (base ∷ r ∷ []) types.Nil ≡ type.Con (base ∷ s ∷ []) types.Nil → r ≡ s
rigid_same r s base e = cc

con_path : (p q : List ℕ) (ts us : Typs) → type.Con p ts ≡ type.Con q us → (p ≡ q) × (ts ≡ us)
con_path p q ts us e = (cc, cc)

tuple_parts : (ts us : Typs) → type.Tuple ts ≡ type.Tuple us → ts ≡ us
tuple_parts ts us e = cc

arrow_tuple : (a b : Typ) (ts : Typs) → type.Arrow a b ≡ type.Tuple ts → ⊥
arrow_tuple a b ts e = cc

arrow_con : (a b : Typ) (p : List ℕ) (ts : Typs) → type.Arrow a b ≡ type.Con p ts → ⊥
arrow_con a b p ts e = cc

tuple_con : (us : Typs) (p : List ℕ) (ts : Typs) → type.Tuple us ≡ type.Con p ts → ⊥
tuple_con us p ts e = cc

-- no bound variable stands here
abbrev pub Unbound : Node → Type 0
Unbound c = (level scope : ℕ) → c ≡ Var level scope → level ≢ bound_level

pub differ : (V : Types) (r s : ℕ) (c d : Node) → r ≢ s → IsNoLink c → IsNoLink d → Unbound c → Unbound d → (IsFreeVar c → ⊥) → (IsFreeVar d → ⊥) → (SameHead c d → ⊥) →
    IsOrdinary c → IsOrdinary d → FitsLoosely V r c → FitsLoosely V s d → V r ≡ V s → ⊥
differ V r s (Var l z) d other is is' u u' f f' h o o' t t' e = f (u l z refl)
differ V r s (Link m) d other is is' u u' f f' h o o' t t' e = is
differ V r s Rigid (Var l z) other is is' u u' f f' h o o' t t' e = f' (u' l z refl)
differ V r s Rigid (Link n) other is is' u u' f f' h o o' t t' e = is'
differ V r s Rigid Rigid other is is' u u' f f' h o o' t t' e = other (rigid_same r s (2 ^ 64) (sym t ∙ e ∙ t'))
differ V r s Rigid (Arrow x y) other is is' u u' f f' h o o' t t' e = arrow_con (V x) (V y) (2 ^ 64 ∷ r ∷ []) types.Nil (sym t' ∙ sym e ∙ t)
differ V r s Rigid (Tuple ns) other is is' u u' f f' h o o' t t' e = tuple_con (types_of (map V ns)) (2 ^ 64 ∷ r ∷ []) types.Nil (sym t' ∙ sym e ∙ t)
differ V r s Rigid (Con q name' ns) other is is' u u' f f' h o o' t t' e = o' r (con_path q (2 ^ 64 ∷ r ∷ []) (types_of (map V ns)) types.Nil (sym t' ∙ sym e ∙ t)).0
differ V r s (Arrow a b) (Var l z) other is is' u u' f f' h o o' t t' e = f' (u' l z refl)
differ V r s (Arrow a b) (Link n) other is is' u u' f f' h o o' t t' e = is'
differ V r s (Arrow a b) Rigid other is is' u u' f f' h o o' t t' e = arrow_con (V a) (V b) (2 ^ 64 ∷ s ∷ []) types.Nil (sym t ∙ e ∙ t')
differ V r s (Arrow a b) (Arrow x y) other is is' u u' f f' h o o' t t' e = h tt
differ V r s (Arrow a b) (Tuple ns) other is is' u u' f f' h o o' t t' e = arrow_tuple (V a) (V b) (types_of (map V ns)) (sym t ∙ e ∙ t')
differ V r s (Arrow a b) (Con q name' ns) other is is' u u' f f' h o o' t t' e = arrow_con (V a) (V b) q (types_of (map V ns)) (sym t ∙ e ∙ t')
differ V r s (Tuple ms) (Var l z) other is is' u u' f f' h o o' t t' e = f' (u' l z refl)
differ V r s (Tuple ms) (Link n) other is is' u u' f f' h o o' t t' e = is'
differ V r s (Tuple ms) Rigid other is is' u u' f f' h o o' t t' e = tuple_con (types_of (map V ms)) (2 ^ 64 ∷ s ∷ []) types.Nil (sym t ∙ e ∙ t')
differ V r s (Tuple ms) (Arrow x y) other is is' u u' f f' h o o' t t' e = arrow_tuple (V x) (V y) (types_of (map V ms)) (sym t' ∙ sym e ∙ t)
differ V r s (Tuple ms) (Tuple ns) other is is' u u' f f' h o o' t t' e = h (types_length V ms ns (tuple_parts (types_of (map V ms)) (types_of (map V ns)) (sym t ∙ e ∙ t')))
differ V r s (Tuple ms) (Con q name' ns) other is is' u u' f f' h o o' t t' e = tuple_con (types_of (map V ms)) q (types_of (map V ns)) (sym t ∙ e ∙ t')
differ V r s (Con p name ms) (Var l z) other is is' u u' f f' h o o' t t' e = f' (u' l z refl)
differ V r s (Con p name ms) (Link n) other is is' u u' f f' h o o' t t' e = is'
differ V r s (Con p name ms) Rigid other is is' u u' f f' h o o' t t' e = o s (con_path p (2 ^ 64 ∷ s ∷ []) (types_of (map V ms)) types.Nil (sym t ∙ e ∙ t')).0
differ V r s (Con p name ms) (Arrow x y) other is is' u u' f f' h o o' t t' e = arrow_con (V x) (V y) p (types_of (map V ms)) (sym t' ∙ sym e ∙ t)
differ V r s (Con p name ms) (Tuple ns) other is is' u u' f f' h o o' t t' e = tuple_con (types_of (map V ns)) p (types_of (map V ms)) (sym t' ∙ sym e ∙ t)
differ V r s (Con p name ms) (Con q name' ns) other is is' u u' f f' h o o' t t' e = let w = con_path p q (types_of (map V ms)) (types_of (map V ns)) (sym t ∙ e ∙ t') in h (w.0, types_length V ms ns w.1)

-- where the plan is a clash and no bound variable occurs, nothing that fits gives both roots one type
pub never_planned : (nodes : List Node) (r s : ℕ) → IsSound nodes → r ≢ s → r < length nodes → s < length nodes → root nodes r ≡ r → root nodes s ≡ s → Planned nodes r s Clash →
    HaveNoBound nodes r s → NeverOne nodes r s
never_planned nodes r s sound other r_in s_in r_end s_end p none = record {
  never = λ V fits same.
      let q = p.plans in
      differ V r s p.left p.right other
      (root_no_link nodes sound r p.left r_in (ap (slice_get nodes) r_end ∙ p.left_at)) (root_no_link nodes sound s p.right s_in (ap (slice_get nodes) s_end ∙ p.right_at))
      (λ level scope e. none.free r level scope none.left (p.left_at ∙ ap (λ (x : Node). Some x) e)) (λ level scope e. none.free s level scope none.right (p.right_at ∙ ap (λ (x : Node). Some x) e))
      q.0 q.1 q.2 q.3 q.4 (fits.each r p.left p.left_at) (fits.each s p.right p.right_at) same;
}
