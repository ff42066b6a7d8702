-- Limits in turn: nothing is asked for them, and then what stands in their variables is of at most their level.
use Rattle.std.proofs.Common.{◌≡◌, ◌≢◌, ◌∙◌, ℕ, zero, suc, ◌<◌, ◌≤◌, List, [], ◌∷◌, Some, refl, sym, ap, subst, arith}
use Rattle.std.specs.Prelude.{slice_get}
use Rattle.std.proofs.lemmas.Bool.{eqb-true}
use Rattle.type_model.specs.Types.{Typ}
use Rattle.type_model.specs.Substitutions.{apply}
use Rattle.typing_model.specs.Contexts.{Choice}
use Rattle.type_model.specs.Types.{occurs}
use Rattle.type_nodes.specs.Nodes.{Var, bound_level}
use Rattle.type_nodes.specs.Readings.{Types}
use Rattle.type_nodes.specs.States.{State, Change, state}
use Rattle.type_nodes.specs.Changes.{Makes}
use Rattle.level_unify.specs.Solutions.{Loose, HaveNoBound}
use Rattle.level_unify.proofs.Unified.{fits_under}
use Rattle.typing_state.specs.declared.parts.Parts.{Parts}
use Rattle.typing_state.specs.Types.{level_for, any_scope}
use Rattle.typing_conditions.specs.Locals.{IsOwn, Refines}
use Rattle.typing_conditions.specs.Standing.{IsIn}
use Rattle.typing_conditions.proofs.Own.{own_of}
use Rattle.typing_conditions.proofs.Steps.{refines_made}
use Rattle.typing_conditions.proofs.Instances.{open_nodes}
use Rattle.typing_conditions.proofs.Later.{context_after, result_after}
use Rattle.typing_conditions.proofs.Fresh.{own_fits}
use Rattle.typing_conditions.specs.Sights.{Sight, Letters}
use Rattle.typing_conditions.specs.Frames.{Frame, Reaches, IsOpen}
use Rattle.typing_conditions.specs.Meanings.{AllMean, one_means}
use Rattle.typing_conditions.specs.Carrying.{Scope, Stays, Carried}
use Rattle.typing_conditions.proofs.Carried.{carried_refl, carried_trans}
use Rattle.typing_conditions.proofs.Framing.{sound_made}
use Rattle.typing_conditions.proofs.Making.{makes_extends, made_here}
use Rattle.typing_conditions.proofs.Meaning.{all_mean_on}
use Rattle.typing_steps.specs.States.{sight}
use Rattle.typing_steps.proofs.Joining.{with_level, level_limited}
use Rattle.typing_steps.proofs.Limiting.{Limited, level_asked, limit_asked, limit_low}
use Rattle.binding_rows.specs.Closing.{Limit, limit_nodes, limit_variables, LimitsAll, IsLimited, AreLimited}

-- no bound variable stands in a new variable or in an open node
none_bound : {F : Frame} {a : Sight} {before : List Change} {mid : State} {v l o m : ℕ} → Makes (state a.nodes before) mid v (Var l o) → l ≢ bound_level → IsOpen F a m → HaveNoBound mid.nodes v m
none_bound {F} {a} {before} {mid} {v} {l} {o} {m} made free p =
    open_nodes mid.nodes own_mid.0 v m own_mid.1
    (λ u h. let s = eqb-true u v (ap (occurs u) (sym (own_mid.1.vars v l o there)) ∙ h) in record { level = l; scope = o; at = ap (slice_get mid.nodes) s ∙ there; free = free })
    (λ u h.
    let r = result_after F.start a.nodes mid.nodes own_a.0 own_mid.0 F.roots F.level m own_a.1 own_mid.1 refines_mid (record { inside = p.inside; within = p.within; free = p.free own_a.0 own_a.1 }) in
    let f = r.free u h in record { level = f.level; scope = f.scope; at = f.at; free = f.free })
  where
    there : slice_get mid.nodes v ≡ Some (Var l o)
    there = made_here (state a.nodes before) mid v (Var l o) made

    own_a : (I : Types) × IsOwn a.nodes I
    own_a = own_of a.nodes p.reached.sound

    own_mid : (J : Types) × IsOwn mid.nodes J
    own_mid = own_of mid.nodes (sound_made a (record a { nodes = mid.nodes }) p.reached.sound made (λ k d lt. absurd (omega arith)))

    refines_mid : Refines a.nodes mid.nodes own_mid.0
    refines_mid = let e = makes_extends (state a.nodes before) mid v (Var l o) made in refines_made a.nodes mid.nodes own_mid.0 own_mid.1 (record { longer = e.longer; node = e.node })

-- the variable of a limit has the type of the node
limit_same : {F : Frame} {a b : Sight} {mid : State} {v l o m : ℕ} → Limited F a b mid v l o m → IsOpen F a m → (V : Types) → Loose b.nodes V → V v ≡ V m
limit_same {b = b} {v = v} {m = m} at p V loose =
    let (K, own) = own_of b.nodes at.sound in
    let one = at.one (none_bound at.made at.free p) in
    let same : K v ≡ K m = (one.fitted (λ x. 0) K (fits_under b.nodes K (own_fits b.nodes K own))).1 in
    own.comes V loose v ∙ ap (apply V) same ∙ sym (own.comes V loose m)

-- what is limited stays so
limited_on : {F : Frame} {a b : Sight} {G H : Letters} {level : ℕ} {l : Limit} → Stays F a G b H → Reaches F a → IsLimited a.nodes level l → IsLimited b.nodes level l
limited_on {F} {a} {b} {level = level} {l = l} s r h = record {
  same = λ V loose. h.same V (s.loose V loose);
  low = λ K own. let before = own_of a.nodes r.sound in context_after a.nodes b.nodes before.0 K (l.variable ∷ []) level before.1 own (s.refines r K own) (h.low before.0 before.1);
}

-- what limits in turn come to
pub record LimitsCarried (F : Frame) (scope : Scope) (a b : Sight) (G : Letters) (level : ℕ) (ls : List Limit) : Type 0 where
  pub carried : Carried F scope (λ c. []) a G b G
  pub limited : AreLimited b.nodes level ls

-- Types are limited one after the other, in a frame that holds the variables from the level on.
pub limits_carried : {F : Frame} {scope : Scope} {G : Letters} {types : List (Choice → Typ)} (a b : Parts) (k level : ℕ) (ls : List Limit) → AllMean F (with_level k (sight a)) G types (limit_nodes ls) → LimitsAll a b level ls →
    ((i v : ℕ) → level_for level ≤ i → i < F.level → IsIn (limit_variables ls) v → IsIn (F.held i) v) → LimitsCarried F scope (with_level k (sight a)) (with_level k (sight b)) G (level_for level) ls
limits_carried {F} {scope} {G} a b k level [] means same held = record {
  carried = subst (λ x. Carried F scope (λ c. []) (with_level k (sight a)) G (with_level k (sight x)) G) (sym same) carried_refl;
  limited = tt;
}
limits_carried {F} {scope} {G} a b k level (l ∷ ls) (one_means {type = t} p ps) (c, one, rest) held =
    let at : Limited F (with_level k (sight a)) (with_level k (sight c)) one.mid l.variable (level_for level) any_scope l.node =
    level_limited a c k level p.open_node one.makes one.joins one.rest one.goes one.sound (λ i le lt. held i l.variable le lt (zero, refl)) in
    let first : Carried F scope (λ x. []) (with_level k (sight a)) G (with_level k (sight c)) G = limit_asked at p (level_asked t) in
    let others : LimitsCarried F scope (with_level k (sight c)) (with_level k (sight b)) G (level_for level) ls =
    limits_carried c b k level ls (all_mean_on first.stays ps) rest (λ i v le lt h. held i v le lt (suc h.0, h.1)) in
    let now : IsLimited c.store.nodes (level_for level) l = record { same = limit_same at p.open_node; low = limit_low at p.open_node } in
    record { carried = carried_trans first others.carried; limited = (limited_on others.carried.stays (first.stays.reaches p.open_node.reached) now, others.limited) }
