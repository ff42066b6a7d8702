-- A demand that was judged, and changed nothing but what is reported, is carried between items.
use Rattle.std.proofs.Common.{◌≡◌, ℕ, Bool, true, List, [], Some, refl, sym, ap, subst}
use Rattle.typing_laws.proofs.Bools.{no_yes}
use Rattle.signature_model.specs.Entries.{Environment}
use Rattle.typing_model.specs.Contexts.{Choice, Context, parameters}
use Rattle.typing_model.specs.Demands.{Site}
use Rattle.type_nodes.specs.Nodes.{IsSound}
use Rattle.type_nodes.specs.Readings.{IsReading, Fits}
use Rattle.env_table.specs.declared.entries.Entry.{Entry}
use Rattle.typing_state.specs.declared.parts.Parts.{Parts}
use Rattle.typing_state.specs.Goes.{OnlyFaults}
use Rattle.typing_conditions.specs.Carrying.{Asks}
use Rattle.typing_conditions.specs.Environments.{no_names}
use Rattle.typing_conditions.specs.Locals.{IsOwn, Refines}
use Rattle.typing_conditions.specs.Sights.{Letters}
use Rattle.typing_conditions.proofs.Steps.{refines_none}
use Rattle.typing_steps.specs.Constants.{HasConstants}
use Rattle.typing_steps.specs.States.{is_aloud, sight, fixed_of}
use Rattle.typing_steps.specs.Typing.{as_declared}
use Rattle.typing_rows.proofs.Judging.{Judges}
use Rattle.binding_rows.specs.Outside.{Outside, ItemsCarried}
use Rattle.first_laws.specs.Declaring.{OnlyTypes, Declares, StartsAfter}
use Rattle.first_laws.proofs.Declared.{outside_declared, declared_older, declared_grows}
use Rattle.first_laws.proofs.SettledItems.{items_settled}
use Rattle.declared_items.proofs.Frames.{own_types, own_at, names_before}

-- no type was made
faults_types : {a b : Parts} → OnlyFaults a b → IsSound a.store.nodes → OnlyTypes (sight a) (sight b)
faults_types {a} {b} rest sound = record {
  sound = subst (λ s. IsSound s.nodes) (sym rest.store) sound;
  level = rest.level;
  types = λ i p. ap (λ x. (sight (record a { index = x })).types i p) rest.index;
  noted = λ i p h. subst (λ x. (sight (record a { index = x })).noted i p ≡ true) (sym rest.index) h;
  scopes = λ i p env h. subst (λ x. (sight (record a { index = x })).scopes i p ≡ Some env) (sym rest.index) h;
  refines = λ K own. subst (λ s. Refines a.store.nodes s.nodes K) (sym rest.store) (refines_none a.store.nodes K (subst (λ s. IsOwn s.nodes K) rest.store own));
  reads = λ V h. subst (λ s. IsReading s.nodes V) rest.store h;
}

pub judged_carried : (a b : Parts) {G : Letters} {env : List Entry} {E : Choice → Environment} (at : Outside as_declared (sight a) G env E) (constants : HasConstants a) {asks : Asks} {s : Site} {v : Bool} → Judges (names_before a at constants []) asks (sight a) (sight b) s v → OnlyFaults a b →
    (others : Asks) → ((c : Context) → asks (record c { variables = parameters [] }) ≡ others c) → (n : ℕ) → ItemsCarried E others (sight a) G (sight b) G
judged_carried a b at constants j rest others same n =
    items_settled at (faults_types rest at.sound) (own_types a at constants) (own_at a at constants) [] j.settled others same j.reports (ap is_aloud rest.telling) (ap fixed_of rest.constants) (λ V fits. (V, subst (λ s. Fits s.nodes V) (sym rest.store) fits, λ k lt. refl)) n

-- The next item starts among the same names.
pub judged_outside : {a b : Parts} {G : Letters} {env : List Entry} {E : Choice → Environment} (at : Outside as_declared (sight a) G env E) → OnlyFaults a b → StartsAfter at (sight b) G [] [] at.older
judged_outside {a} {b} at rest =
    let on = faults_types rest at.sound in
    let none : Declares (sight a) (sight b) at.roots at.names [] [] = record {
      new_roots = [];
      new_names = at.names;
      same = λ v lt. refl;
      apart = at.apart;
      older = at.older;
      unknown = at.unknown;
      are_bound = record { inside = λ k r e. absurd (cc); bound = λ K own v h. absurd (no_yes h) };
      entries = no_names;
      plain = true;
      keeps = λ e. record { plain = λ none. none; entries = no_names };
    } in
    record { outside = outside_declared at on none; older = declared_older at on none; grows = declared_grows at on none }
