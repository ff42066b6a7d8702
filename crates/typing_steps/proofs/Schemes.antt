-- Instances of schemes, and the types of names that are closed.
use Rattle.std.proofs.Common.{◌≡◌, ◌≢◌, ◌∙◌, ◌++◌, ℕ, suc, ◌^◌, ◌+◌, ◌<◌, ◌≤◌, false, true, List, [], ◌∷◌, Some, refl, sym, ap, subst, arith}
use Rattle.std.specs.Prelude.{slice_get}
use Rattle.std.proofs.lemmas.Bool.{ne_eqb}
use Rattle.type_model.specs.Types.{Path, Typ, occurs}
use Rattle.signature_model.specs.Declarations.{Name}
use Rattle.signature_model.specs.Entries.{value_kind}
use Rattle.signature_model.specs.Lookups.{an_entry, lookup_by}
use Rattle.signature_model.specs.Matching.{is_unknown}
use Rattle.type_terms.specs.declared.types.NodeRef.{NodeRef}
use Rattle.typing_laws.proofs.Bools.{no_yes}
use Rattle.type_nodes.specs.Nodes.{Node, Var, Con, bound_level, IsSound, IsNode, IsPlainPath}
use Rattle.type_nodes.specs.Nodes as nodes
use Rattle.type_nodes.specs.Readings.{Types}
use Rattle.level_unify.specs.Generalising.{Generalised}
use Rattle.level_unify.specs.Instances.{Instantiated}
use Rattle.env_table.specs.declared.entries.Entry.{Entry}
use Rattle.env_table.specs.declared.entries.What.TheVariants as what
use Rattle.env_table.specs.Views.{is_named, inside}
use Rattle.typing_state.specs.declared.parts.Parts.{Parts}
use Rattle.typing_state.specs.Goes.{OnlyStore}
use Rattle.typing_state.specs.Types.{level_for}
use Rattle.typing_conditions.specs.Locals.{IsPlain, IsOwn, ClosesAll}
use Rattle.typing_conditions.specs.Standing.{IsIn}
use Rattle.typing_conditions.proofs.Closing.{closed_own}
use Rattle.typing_conditions.proofs.Bindings.{generalised_closes, closes_then}
use Rattle.typing_conditions.proofs.Names.{finds_scheme}
use Rattle.typing_conditions.specs.Sights.{Key, value_of, Letters, IsKnownFor}
use Rattle.typing_conditions.specs.Frames.{Frame, IsOpen, inner_frame}
use Rattle.typing_conditions.specs.Steps.{OnlyLevel}
use Rattle.typing_conditions.specs.Carrying.{Scope, CarriedTo}
use Rattle.typing_conditions.specs.Surroundings.{Declared, Surrounds}
use Rattle.typing_conditions.proofs.Using.{scheme_found, used_if, TakesInstance, name_used}
use Rattle.typing_conditions.proofs.Outward.{GoesOut}
use Rattle.typing_steps.specs.States.{sight}
use Rattle.typing_steps.proofs.Seeing.{only_nodes, level_here}

-- the path of an origin in code is that of no unknown type
pub known_path : (path : Path) → IsPlainPath path → is_unknown path ≡ false
known_path [] lt = refl
known_path (k ∷ path) lt = let other = ne_eqb k (2 ^ 64 + 1) (λ e. let below : k < 2 ^ 64 = lt in omega arith) in rw other refl

-- so no constructor of a store is an unknown type, as the nodes' own types want it
pub plain_nodes : (ns : List Node) → nodes.IsPlain ns → IsPlain ns
plain_nodes ns plain = record { each = λ n path name ms at. known_path path (plain.each n (Con path name ms) at) }

-- `instance`, for a path that finds an entry with a root
pub instance_taken : (a b : Parts) {D : Declared} {F : Frame} {scope : Scope} {G : Letters} {env : List Entry} {ms : List Name} {x : Name} {entry : Entry} {root : NodeRef} {m : ℕ} → Surrounds D F (sight a) G env scope →
    lookup_by is_named inside env ms value_kind x ≡ an_entry entry → entry.what ≡ what.Scheme root → (IsNode a.store.nodes root.0 → IsSound b.store.nodes) →
    (IsNode a.store.nodes root.0 → Instantiated a.store.nodes b.store.nodes root.0 (level_for a.level) m) → OnlyStore a b → TakesInstance env (sight a) (sight b) ms x F.level m
instance_taken a b {D} {F} {ms = ms} {x = x} {entry = entry} {root = root} {m = m} at finds is sound taken rest = record {
  entry = entry;
  root = root;
  finds = finds;
  is = is;
  sound = sound root_inside;
  taken = subst (λ l. Instantiated a.store.nodes b.store.nodes root.0 l m) (level_here a at.reached) (taken root_inside);
  rest = only_nodes a b rest;
}
  where
    root_inside : IsNode a.store.nodes root.0
    root_inside = let found = finds_scheme (λ k sc. IsIn at.roots k) (D.declaration a.store.nodes at.roots at.names) (D.exception a.store.nodes at.roots at.names) root ms x entry finds is at.covered.1 in (at.are_roots found.holds.0 root.0 found.holds.1).inside

-- The use of a name has the type that the choice has for a letter.
pub instance_used : (a b : Parts) {D : Declared} {F : Frame} {scope : Scope} {G : Letters} {env : List Entry} (ms : List Name) (x : Name) {entry : Entry} {root : NodeRef} {m : ℕ} (key : Key) → ((t : Typ) → IsKnownFor key t) →
    Surrounds D F (sight a) G env scope → lookup_by is_named inside env ms value_kind x ≡ an_entry entry → entry.what ≡ what.Scheme root → (IsNode a.store.nodes root.0 → IsSound b.store.nodes) →
    (IsNode a.store.nodes root.0 → Instantiated a.store.nodes b.store.nodes root.0 (level_for a.level) m) → OnlyStore a b →
    CarriedTo F scope (λ c. used_if (scheme_found c.env ms x) (value_of c.chosen key)) (sight a) G (sight b) ((key, m) ∷ G) (λ ch. value_of ch key) m
instance_used a b ms x key free at finds is sound taken rest = name_used key free at (instance_taken a b at finds is sound taken rest)

-- no name is closed yet
pub closes_none : (ns : List Node) (K : Types) (level : ℕ) → ClosesAll ns ns K [] level
closes_none ns K level = record { len = refl; binds = λ v l o e free above h. absurd (no_yes h); stays = λ n h. refl }

-- `generalise`: one name's type more is closed, after those of others
pub closes_more : (z a b : Parts) (K : Types) (rs : List ℕ) (r : ℕ) → IsOwn z.store.nodes K → ClosesAll z.store.nodes a.store.nodes K rs a.level → IsNode z.store.nodes r →
    (IsNode a.store.nodes r → Generalised a.store.nodes b.store.nodes r a.level) → ClosesAll z.store.nodes b.store.nodes K (rs ++ r ∷ []) a.level
closes_more z a b K rs r own before inside closed =
    let there : IsNode a.store.nodes r = (let e = before.len in omega arith) in
    let mid = closed_own z.store.nodes a.store.nodes K rs a.level own before in
    closes_then z.store.nodes a.store.nodes b.store.nodes K rs (r ∷ []) a.level before (generalised_closes a.store.nodes b.store.nodes K r a.level mid there (closed there))

-- Back at the outer level all names of a group were closed: b is the state at the end of the group, c that with the level lowered, and d the one after closing.
pub group_left : (a b c d : Parts) {F : Frame} {J : Types} {roots : List ℕ} {held : ℕ → List ℕ} {names : List ℕ} → OnlyLevel (sight b) (sight c) → b.level ≡ suc c.level → c.level ≡ F.level → OnlyStore c d → IsSound d.store.nodes →
    ((k r : ℕ) → slice_get names k ≡ Some r → IsOpen (inner_frame F (sight a) J roots held) (sight b) r) →
    ((K : Types) → IsOwn b.store.nodes K → (n v l o : ℕ) → IsIn (held F.level) n → occurs v (K n) ≡ true → slice_get b.store.nodes v ≡ Some (Var l o) → l ≢ bound_level → l ≤ F.level) →
    ((K : Types) → IsOwn c.store.nodes K → ClosesAll c.store.nodes d.store.nodes K names c.level) → GoesOut F (sight a) J roots held names (sight b) (sight d)
group_left a b c d {F} {J} {roots} {held} {names} only lowered level rest sound opens low closes =
    let next = only_nodes c d rest in
    record {
      are_open = opens;
      held_low = low;
      closes = λ K own. subst (λ ns. ClosesAll ns d.store.nodes K names F.level) only.nodes (subst (λ l. ClosesAll c.store.nodes d.store.nodes K names l) level (closes K (subst (λ ns. IsOwn ns K) (sym only.nodes) own)));
      sound = sound;
      lowered = lowered ∙ ap suc (sym next.level);
      types = λ i p. next.types i p ∙ only.types i p;
      noted = λ i p h. next.noted i p (only.noted i p h);
      scopes = λ i p env h. next.scopes i p env (only.scopes i p env h);
      written = λ x. next.written x ∙ only.written x;
      reports = next.reports ∙ only.reports;
      aloud = next.aloud ∙ only.aloud;
      item = next.item ∙ only.item;
      fixed = next.fixed ∙ only.fixed;
    }
