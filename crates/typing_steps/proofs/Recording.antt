-- What is recorded for a node: its type, or that it is treated in an environment.
use Rattle.std.proofs.Common.{◌≡◌, ◌∙◌, ℕ, Bool, true, false, ◌&&◌, ◌==◌, if◌then◌else◌, List, Option, Some, None, refl, sym, ap}
use Rattle.std.proofs.lemmas.Bool.{eqb-true}
use Rattle.type_model.proofs.Applying.{eqb_same}
use Rattle.typing_laws.proofs.Bools.{and_cases, and_both}
use Rattle.std.specs.Prelude.{option_map}
use Rattle.type_terms.specs.declared.types.NodeRef.{NodeRef}
use Rattle.type_nodes.specs.States.{State}
use Rattle.env_table.specs.declared.entries.Entry.{Entry}
use Rattle.env_table.specs.declared.seen.Seen.{Seen}
use Rattle.typed_index.specs.Seen.{seen_at}
use Rattle.typing_state.specs.declared.parts.Telling.{Telling}
use Rattle.typing_state.specs.declared.parts.Telling.TheVariants.{Aloud, Quiet}
use Rattle.typing_state.specs.declared.parts.Parts.{Parts}
use Rattle.typing_state.specs.Goes.{OnlyIndex}
use Rattle.typing_state.specs.Notes.{NotedFirst, Noted, NotedNameless}
use Rattle.typing_conditions.specs.Sights.{AreScopesIn}
use Rattle.typing_conditions.specs.Steps.{Records}
use Rattle.typing_steps.specs.States.{type_in, is_noted, is_aloud, written_in, fixed_of, sight}

-- the names in scope of what is recorded
abbrev scope_in : Option Seen → Option (List Entry)
scope_in o = option_map (λ (s : Seen). s.env) o

noted_of_first : (b : Bool) (s : Seen) (y : Option Seen) → is_noted y ≡ true → is_noted (if b then Some s else y) ≡ true
noted_of_first true s y h = refl
noted_of_first false s y h = h

-- what is recorded for the first time is noted then, and was not before
pub noted_now : (a b : Parts) (number : ℕ) (seen : Seen) → NotedFirst a b number seen → (sight b).noted a.item number ≡ true
noted_now a b number seen noted = ap is_noted (noted.after a.item number ∙ ap (λ t. if t then Some seen else seen_at a.index a.item number) (and_both (a.item == a.item) (number == number) (eqb_same a.item) (eqb_same number)))

-- and what was noted is so still
pub noted_still : (a b : Parts) (number : ℕ) (seen : Seen) → NotedFirst a b number seen → (i p : ℕ) → (sight a).noted i p ≡ true → (sight b).noted i p ≡ true
noted_still a b number seen noted i p h = ap is_noted (noted.after i p) ∙ noted_of_first (a.item == i && number == p) seen (seen_at a.index i p) h

-- the names in scope of what is recorded for the first time are recorded then
pub scope_now : (a b : Parts) (number : ℕ) (seen : Seen) → NotedFirst a b number seen → (sight b).scopes a.item number ≡ Some seen.env
scope_now a b number seen noted = ap scope_in (noted.after a.item number ∙ ap (λ t. if t then Some seen else seen_at a.index a.item number) (and_both (a.item == a.item) (number == number) (eqb_same a.item) (eqb_same number)))

-- and those that were recorded are so still
pub scopes_still : (a b : Parts) (number : ℕ) (seen : Seen) → NotedFirst a b number seen → AreScopesIn (sight a).scopes (sight b).scopes
scopes_still a b number seen noted i p env h = ap scope_in (noted.after i p) ∙ at (a.item == i && number == p) refl
  where
    at : (t : Bool) → (a.item == i && number == p) ≡ t → scope_in (if t then Some seen else seen_at a.index i p) ≡ Some env
    at true f =
        let both = and_cases (a.item == i) (number == p) f in
        let here : seen_at a.index i p ≡ None = (λ k. seen_at a.index (sym (eqb-true a.item i both.0) k) (sym (eqb-true number p both.1) k)) ∙ noted.before in
        absurd (let none : None ≡ Some env = sym (ap scope_in here) ∙ h in cc)
    at false f = h

-- where faults are reported, `note` records the names in scope
pub noted_scope : (a b : Parts) (number : ℕ) (seen : Seen) → is_aloud a.telling ≡ true → Noted a.telling a b number seen → (sight b).scopes a.item number ≡ Some seen.env
noted_scope a b number seen aloud noted = by a.telling aloud noted
  where
    by : (t : Telling) → is_aloud t ≡ true → Noted t a b number seen → (sight b).scopes a.item number ≡ Some seen.env
    by Quiet e h = absurd (cc)
    by Aloud e h = scope_now a b number seen h

type_of_first : (b : Bool) (s : Seen) (y : Option Seen) → type_in (if b then Some s else y) ≡ (if b then type_in (Some s) else type_in y)
type_of_first true s y = refl
type_of_first false s y = refl

-- what is recorded for the first time, with a type
first_type : (a b : Parts) (number : ℕ) (m : NodeRef) (seen : Seen) → seen.ty ≡ Some m → NotedFirst a b number seen → OnlyIndex a b → Records (sight a) (sight b) number m.0 seen.env
first_type a b number m seen typed noted rest = record {
  none = ap type_in noted.before;
  types = λ i q. ap type_in (noted.after i q) ∙ type_of_first (a.item == i && number == q) seen (seen_at a.index i q) ∙ ap (λ t. if a.item == i && number == q then option_map (λ (k : NodeRef). k.0) t else type_in (seen_at a.index i q)) typed;
  fresh = ap is_noted noted.before;
  now = noted_now a b number seen noted;
  noted = noted_still a b number seen noted;
  scopes = scopes_still a b number seen noted;
  scope = scope_now a b number seen noted;
  written = λ x. ap (λ w. written_in w x) rest.written;
  nodes = ap (λ (s : State). s.nodes) rest.store;
  reports = ap (λ f. (sight (record a { faults = f })).reports) rest.faults;
  aloud = ap is_aloud rest.telling;
  item = rest.item;
  level = rest.level;
  fixed = ap fixed_of rest.constants;
}

-- `note` with a type records it
pub type_noted : (a b : Parts) (number : ℕ) (m : NodeRef) (seen : Seen) → seen.ty ≡ Some m → is_aloud a.telling ≡ true → Noted a.telling a b number seen → OnlyIndex a b → Records (sight a) (sight b) number m.0 seen.env
type_noted a b number m seen typed aloud noted rest = by a.telling aloud noted
  where
    by : (t : Telling) → is_aloud t ≡ true → Noted t a b number seen → Records (sight a) (sight b) number m.0 seen.env
    by Quiet e h = absurd (cc)
    by Aloud e h = first_type a b number m seen typed h rest

-- `note_type` records the type
pub nameless_noted : (a b : Parts) (number : ℕ) (env : List Entry) (m : NodeRef) → is_aloud a.telling ≡ true → NotedNameless a b number env (Some m) → OnlyIndex a b → Records (sight a) (sight b) number m.0 env
nameless_noted a b number env m aloud (names, none, noted) rest = type_noted a b number m (record { env = env; ty = Some m; names = names }) refl aloud noted rest
