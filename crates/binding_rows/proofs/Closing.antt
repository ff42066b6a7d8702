-- Closing a group: its names are closed at the outer level, and its types that are limited are of at most that level.
use Rattle.std.proofs.Common.{◌≡◌, ◌≢◌, ◌∙◌, ◌-◌, ◌^◌, ◌<◌, ◌≤◌, min, ℕ, zero, suc, true, List, [], ◌∷◌, Some, refl, sym, ap, subst, arith}
use Rattle.std.specs.Prelude.{slice_get}
use Rattle.type_model.specs.Types.{Typ, occurs}
use Rattle.type_model.proofs.Applying.{or_left}
use Rattle.typing_model.specs.Contexts.{Choice}
use Rattle.type_nodes.specs.Nodes.{Node, Var, bound_level}
use Rattle.type_nodes.specs.Readings.{Types}
use Rattle.typing_state.specs.declared.parts.Parts.{Parts}
use Rattle.typing_state.specs.Types.{level_for}
use Rattle.typing_conditions.specs.Locals.{IsOwn, ClosesAll}
use Rattle.typing_conditions.specs.Standing.{IsIn}
use Rattle.typing_conditions.specs.Sights.{Sight, Letters}
use Rattle.typing_conditions.specs.Frames.{Frame, AreOpen, inner_frame}
use Rattle.typing_conditions.specs.Meanings.{AllMean}
use Rattle.typing_conditions.specs.Steps.{OnlyNodes}
use Rattle.typing_conditions.specs.Carrying.{Scope}
use Rattle.typing_conditions.proofs.Outward.{GoesOut}
use Rattle.typing_steps.specs.States.{sight}
use Rattle.typing_steps.proofs.Seeing.{only_nodes}
use Rattle.typing_steps.proofs.Joining.{with_level}
use Rattle.binding_rows.specs.Closing.{Limit, limit_nodes, limit_variables, ClosesGroup, AreLimited}
use Rattle.binding_rows.proofs.Limits.{LimitsCarried, limits_carried}
use Rattle.binding_rows.proofs.Generalising.{generalised_all, generalised_rest, limited_rest}

level_as : (l b : ℕ) → suc l < b → b ≡ 2 ^ 32 - 1 → min l (2 ^ 32 - 2) ≡ l
level_as l b lt e = grind arith

-- what stands in the variables of limits is of at most their level
limited_low : (nodes : List Node) (level : ℕ) (ls : List Limit) → AreLimited nodes level ls → (K : Types) → IsOwn nodes K → (n v l o : ℕ) → IsIn (limit_variables ls) n → occurs v (K n) ≡ true → slice_get nodes v ≡ Some (Var l o) → l ≢ bound_level → l ≤ level
limited_low nodes level [] h K own n v l o (k, i) stands at free = absurd (cc)
limited_low nodes level (x ∷ xs) h K own n v l o (zero, i) stands at free =
    let s : x.variable ≡ n = cc in
    (h.0.low K own).low v l o (or_left (occurs v (K x.variable)) _ (ap (λ m. occurs v (K m)) s ∙ stands)) at free
limited_low nodes level (x ∷ xs) h K own n v l o (suc k, i) stands at free = limited_low nodes level xs h.1 K own n v l o (k, i) stands at free

-- the state once all is limited, at the level of the group
abbrev pub limited_state : {a d : Parts} {limits : List Limit} {names : List ℕ} → ClosesGroup a d limits names → Sight
limited_state {a} close = with_level a.level (sight close.limited)

module _ {a d : Parts} {limits : List Limit} {names : List ℕ} (close : ClosesGroup a d limits names) (outer : ℕ) (level : a.level ≡ suc outer) where
  lowered_level : close.lowered.level ≡ outer
  lowered_level = ap (λ (p : Parts). p.level) close.lowers ∙ (let e : a.level - 1 ≡ outer = omega arith in e)

  -- the limits' level is the outer one
  limit_level : suc outer < bound_level → level_for close.lowered.level ≡ outer
  limit_level free = ap level_for lowered_level ∙ level_as outer bound_level free refl

  -- once all is limited the level is the outer one
  pub limited_level : close.limited.level ≡ outer
  limited_level = (limited_rest close.lowered close.limited close.lowered.level limits close.limits_all).level ∙ lowered_level

-- the level is lowered, and nothing else is done
lowered_same : {a d : Parts} {limits : List Limit} {names : List ℕ} (close : ClosesGroup a d limits names) → with_level a.level (sight close.lowered) ≡ sight a
lowered_same {a} close = ap (λ (p : Parts). with_level a.level (sight p)) close.lowers

-- generalising changes the nodes alone
only : {a d : Parts} {limits : List Limit} {names : List ℕ} (close : ClosesGroup a d limits names) → OnlyNodes (sight close.limited) (sight d)
only {d = d} {names = names} close = only_nodes close.limited d (generalised_rest close.limited d names close.generalises_all)

-- Nothing is asked for the limits, in a frame of the group's level that holds their variables.
pub limits_asked : {I : Frame} {scope : Scope} {G : Letters} {types : List (Choice → Typ)} {a d : Parts} {limits : List Limit} {names : List ℕ} (close : ClosesGroup a d limits names) (outer : ℕ) → a.level ≡ suc outer → suc outer < bound_level → I.level ≡ suc outer →
    ((v : ℕ) → IsIn (limit_variables limits) v → IsIn (I.held outer) v) → AllMean I (sight a) G types (limit_nodes limits) → LimitsCarried I scope (sight a) (limited_state close) G outer limits
limits_asked {I} {scope} {G} {types} {a} {d} {limits} {names} close outer level free inner held means =
    subst (λ x. LimitsCarried I scope x (limited_state close) G outer limits) (lowered_same close)
    (subst (λ k. LimitsCarried I scope (with_level a.level (sight close.lowered)) (limited_state close) G k limits) (limit_level close outer level free)
    (limits_carried close.lowered close.limited a.level close.lowered.level limits (subst (λ x. AllMean I x G types (limit_nodes limits)) (sym (lowered_same close)) means) close.limits_all
    (λ i v le lt h. let s : outer ≡ i = at_level i le lt in subst (λ k. IsIn (I.held k) v) s (held v h))))
  where
    at_level : (i : ℕ) → level_for close.lowered.level ≤ i → i < I.level → outer ≡ i
    at_level i le lt = let e = limit_level close outer level free in omega arith

-- So the group goes out of its frame, where its names are open, and what the frame holds for the outer level are the limits' variables.
pub closed_out : {F : Frame} {a d : Parts} {limits : List Limit} {names : List ℕ} (close : ClosesGroup a d limits names) → a.level ≡ suc F.level → (x : Sight) (J : Types) (roots : List ℕ) (held : ℕ → List ℕ) → AreLimited close.limited.store.nodes F.level limits →
    ((n : ℕ) → IsIn (held F.level) n → IsIn (limit_variables limits) n) → AreOpen (inner_frame F x J roots held) (limited_state close) names → GoesOut F x J roots held names (limited_state close) (sight d)
closed_out {F} {a} {d} {limits} {names} close level x J roots held low only_limits opens = record {
  are_open = opens;
  held_low = λ K own n v l o h stands at unbound. limited_low close.limited.store.nodes F.level limits low K own n v l o (only_limits n h) stands at unbound;
  closes = λ K own. subst (ClosesAll close.limited.store.nodes d.store.nodes K names) (limited_level close F.level level) (generalised_all close.limited d K names own (λ k r e. (opens k r e).inside) close.generalises_all);
  sound = close.sound;
  lowered = level ∙ ap suc (sym ((only close).level ∙ limited_level close F.level level));
  types = (only close).types;
  noted = (only close).noted;
  scopes = (only close).scopes;
  written = (only close).written;
  reports = (only close).reports;
  aloud = (only close).aloud;
  item = (only close).item;
  fixed = (only close).fixed;
}
