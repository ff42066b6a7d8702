-- The origin of a type of its own: its body reads as the constructor of its path, also once the variables of its roots are bound.
use Rattle.std.proofs.Common.{◌≡◌, ◌∙◌, ℕ, ◌<◌, true, List, [], ◌∷◌, ◌++◌, length, Some, refl, sym, ap, subst}
use Rattle.std.specs.Prelude.{slice_get}
use Rattle.type_model.specs.Types.{Typ, Typs, occurs}
use Rattle.type_model.specs.Types.{Typ as type, Typs as types}
use Rattle.type_model.specs.Substitutions.{apply}
use Rattle.type_model.proofs.Applying.{eqb_same}
use Rattle.type_nodes.specs.Nodes.{Node, Var, Rigid, Link, Arrow, Tuple, Con, IsNode, IsSound}
use Rattle.type_nodes.specs.Links.{root, reading}
use Rattle.type_nodes.specs.Readings.{Types}
use Rattle.type_nodes.proofs.Roots.{root_inside, root_no_link}
use Rattle.level_unify.specs.Solutions.{FitsLoosely}
use Rattle.level_unify.proofs.Solving.{loose_root}
use Rattle.level_unify.proofs.Steps.{cell_at}
use Rattle.typing_conditions.specs.Locals.{IsOwn, ClosesAll}
use Rattle.typing_conditions.specs.Frames.{Frame}
use Rattle.typing_conditions.specs.Sights.{Sight}
use Rattle.typing_conditions.proofs.Closing.{closed_own}
use Rattle.typing_conditions.proofs.Own.{own_of}
use Rattle.typing_conditions.proofs.Regions.{any_in}
use Rattle.declared_rows.specs.Assignments.{Assignment, Assigns, Denotes, IsAssigned, a_parameter, an_unknown}

-- a node whose own type is the constructor of a path of one number reads as one
reads_con : (nodes : List Node) (K : Types) (m n : ℕ) (ts : Typs) → IsSound nodes → IsOwn nodes K → m < length nodes → K m ≡ type.Con (n ∷ []) ts → (name : List ℕ) × (ms : List ℕ) × (reading nodes m ≡ Some (Con (n ∷ []) name ms))
reads_con nodes K m n ts sound own lt is = by cell.0 cell.1 (own.loose.each (root nodes m) cell.0 cell.1)
  where
    cell : (c : Node) × (slice_get nodes (root nodes m) ≡ Some c)
    cell = cell_at nodes (root nodes m) (root_inside nodes sound m lt)

    at_root : K (root nodes m) ≡ type.Con (n ∷ []) ts
    at_root = sym (loose_root nodes K own.loose m) ∙ is

    by : (c : Node) → slice_get nodes (root nodes m) ≡ Some c → FitsLoosely K (root nodes m) c → (name : List ℕ) × (ms : List ℕ) × (reading nodes m ≡ Some (Con (n ∷ []) name ms))
    by (Var l o) e h = absurd (let f : type.Var (root nodes m) ≡ type.Con (n ∷ []) ts = sym (own.vars (root nodes m) l o e) ∙ at_root in cc)
    by Rigid e h = absurd (let f = sym h ∙ at_root in cc)
    by (Link k) e h = absurd (root_no_link nodes sound m (Link k) lt e)
    by (Arrow x y) e h = absurd (let f = sym h ∙ at_root in cc)
    by (Tuple ms) e h = absurd (let f = sym h ∙ at_root in cc)
    by (Con p name ms) e h = let f = sym h ∙ at_root in let g : p ≡ n ∷ [] = cc in (name, ms, e ∙ ap (λ q. Some (Con q name ms)) g)

-- no variable of an assignment has the type of a path of one number
not_assigned : {S : Types} {older U : List ℕ} {arity scope v n : ℕ} {ts : Typs} → IsAssigned S older U arity scope v → S v ≡ type.Con (n ∷ []) ts → ⊥
not_assigned {n = n} {ts = ts} (a_parameter k scoped lt is) e = let f : type.Var k ≡ type.Con (n ∷ []) ts = sym is ∙ e in absurd (cc)
not_assigned {n = n} {ts = ts} (an_unknown [] k scope known i new is) e = absurd (cc)
not_assigned {n = n} {ts = ts} (an_unknown (j ∷ []) k scope known i new is) e = let f : type.Con (j ∷ k ∷ []) types.Nil ≡ type.Con (n ∷ []) ts = sym is ∙ e in absurd (cc)
not_assigned {n = n} {ts = ts} (an_unknown (j ∷ i ∷ o) k scope known i' new is) e = let f : type.Con (j ∷ i ∷ o ++ k ∷ []) types.Nil ≡ type.Con (n ∷ []) ts = sym is ∙ e in absurd (cc)

-- the own type of a node that denotes such a constructor is one
own_con : {F : Frame} {arity : ℕ} {U : List ℕ} {a : Sight} {A : Assignment} {m n : ℕ} {ts : Typs} → Assigns F arity U a A → Denotes A m (type.Con (n ∷ []) ts) → (K : Types) → IsOwn a.nodes K → (us : Typs) × (K m ≡ type.Con (n ∷ []) us)
own_con {a = a} {A} {m} {n} {ts} at d K own = by (K m) refl
  where
    given : apply A.types (K m) ≡ type.Con (n ∷ []) ts
    given = sym (own.comes A.types at.loose m) ∙ d.is

    by : (t : Typ) → K m ≡ t → (us : Typs) × (K m ≡ type.Con (n ∷ []) us)
    by (type.Var v) e =
        let stands : occurs v (K m) ≡ true = ap (occurs v) e ∙ eqb_same v in
        let (k, there) = d.known in
        let x = own.only m v (at.opens m d.known).inside stands in
        absurd (not_assigned (at.each K own v x.level x.scope (any_in v K A.nodes k m there stands) x.at) (sym (ap (apply A.types) e) ∙ given))
    by (type.Arrow t u) e = absurd (let f : type.Arrow (apply A.types t) (apply A.types u) ≡ type.Con (n ∷ []) ts = sym (ap (apply A.types) e) ∙ given in cc)
    by (type.Tuple us) e = absurd (let f = sym (ap (apply A.types) e) ∙ given in cc)
    by (type.Con o us) e = let f = sym (ap (apply A.types) e) ∙ given in let g : o ≡ n ∷ [] = cc in (us, e ∙ ap (λ q. type.Con q us) g)

-- A node that denotes such a constructor reads as one once the variables of some roots are bound.
pub body_reads : {F : Frame} {arity : ℕ} {U : List ℕ} {a : Sight} {A : Assignment} {m n : ℕ} {ts : Typs} (new : List Node) (rs : List ℕ) → Assigns F arity U a A → Denotes A m (type.Con (n ∷ []) ts) → ((K : Types) → IsOwn a.nodes K → ClosesAll a.nodes new K rs 0) → IsSound new →
    IsNode new m × ((name : List ℕ) × (ms : List ℕ) × (reading new m ≡ Some (Con (n ∷ []) name ms)))
body_reads {a = a} {m = m} {n} new rs at d closes sound =
    let (K, own) = own_of a.nodes at.reached.sound in
    let c = closes K own in
    let inside : m < length new = subst (λ k. m < k) (sym c.len) (at.opens m d.known).inside in
    let (us, is) = own_con at d K own in
    (inside, reads_con new K m n us sound (closed_own a.nodes new K rs 0 own c) inside is)
