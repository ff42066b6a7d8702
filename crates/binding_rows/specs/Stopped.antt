-- Where two types were reported to differ in items that were typed one after the other: what is known of the state then.
use Rattle.std.specs.Prelude.{◌≡◌, ℕ, ◌≤◌, true, false, List, [], ◌∷◌, ◌++◌, length, take, slice_get, Some}
use Rattle.tree_model.specs.Trees.{Place}
use Rattle.signature_model.specs.Entries.{Environment}
use Rattle.signature_model.specs.Matching.{IsKnown}
use Rattle.typing_model.specs.Demands.{Site, Demand, equal, Condition}
use Rattle.typing_model.specs.Contexts.{Choice, Context}
use Rattle.type_terms.specs.declared.types.NodeRef.{NodeRef}
use Rattle.type_nodes.specs.Nodes.{IsSound}
use Rattle.type_nodes.specs.Readings.{Types, Fits, IsReading}
use Rattle.level_unify.specs.Solutions.{Loose, HaveNoBound}
use Rattle.level_unify.specs.Instances.{is_bound}
use Rattle.env_table.specs.declared.entries.Entry.{Entry}
use Rattle.env_table.specs.declared.faults.FaultKind.TheVariants as fault
use Rattle.typing_conditions.specs.Sights.{Sight, Key, Report, Letters, AreGiven, SameAt}
use Rattle.typing_conditions.specs.Seeing.{StandsFor}
use Rattle.typing_conditions.specs.Hiding.{IsDone}
use Rattle.typing_conditions.specs.Judging.{Judgement, judged_at, refused, AreKept}
use Rattle.typing_conditions.specs.Carrying.{Asks, AreHidden, StopsAt, IsTreated, without_values, ShowsBoth}
use Rattle.binding_rows.specs.Outside.{AgreesOutside, AreInside, Left, letters_left, AreDecided, EntersItems, ReadsItems}

-- What is left up to some place of items is left in the end, as far as it goes: by the same items, in order, with the types of their declarations.
abbrev pub AreBegun : (now last : List Left) → Type 0
AreBegun [] ls = Unit {0}
AreBegun (x ∷ xs) [] = ⊥
AreBegun (x ∷ xs) (l ∷ ls) = (x.owner ≡ l.owner) × (x.fixed ≡ l.fixed) × AreBegun xs ls

-- What is made and recorded from a state between items to one in an item: it is read as before, and what is given is given.
pub record UpToItem (a : Sight) (G : Letters) (m : Sight) (H : Letters) : Type 0 where
  pub sound : IsSound m.nodes
  pub longer : length a.nodes ≤ length m.nodes
  pub reads : (V : Types) → IsReading m.nodes V → IsReading a.nodes V
  pub bounds : (v : ℕ) → is_bound a.nodes v ≡ true → is_bound m.nodes v ≡ true
  pub recorded : (i p n : ℕ) → a.types i p ≡ Some n → m.types i p ≡ Some n
  pub given : (V : Types) (ch : Choice) → AreGiven H V ch → AreGiven G V ch
  pub inside : AreInside a G → AreInside m []

-- What is there at a state in an item is there after items, and each letter of the first is for the type of a node that is recorded then, or is among the letters of the second.
pub record LastsOutside (m : Sight) (H : Letters) (b : Sight) (L : Letters) : Type 0 where
  pub longer : length m.nodes ≤ length b.nodes
  pub loose : (V : Types) → Loose b.nodes V → Loose m.nodes V
  pub recorded : (i p n : ℕ) → m.types i p ≡ Some n → b.types i p ≡ Some n
  pub letters : (k : ℕ) (x : Key × ℕ) → slice_get H k ≡ Some x → IsDone b L x

-- Types go on to a state in an item: they fit, are as before at the nodes from before, and are those of the choice at what is recorded and left; the choice has the types that are decided; and a demand is that the types of two nodes are one.
pub record GoesToItem (a m : Sight) (left : List Left) (found wanted : NodeRef) (d : Demand) (V : Types) (ch : Choice) : Type 0 where
  pub types : Types
  pub fits : Fits m.nodes types
  pub before : SameAt a.nodes V types
  pub agrees : AgreesOutside m [] types ch
  pub left_too : AreHidden (letters_left left) m types ch
  pub decided : AreDecided left ch
  pub asks : d ≡ equal (types found.0) (types wanted.0)

-- The demand at a stop: that the types of these nodes are one. The names of the code stand for those of an environment that is the one in which the conditions before treat its node, but for values.
pub record ItemStopped (cs : List Condition) (n : ℕ) (s : Site) (at : Place) (found wanted : NodeRef) (names : List Entry) (V : Types) (c : Context) : Type 0 where
  pub place : ℕ
  pub stops : StopsAt c.kept cs n place s at (equal (V found.0) (V wanted.0))
  pub env : Environment
  pub treated_in : Environment
  pub treats : IsTreated s.node treated_in (take place cs)
  pub alike : without_values env ≡ without_values treated_in
  pub stands : StandsFor V names env

-- A demand that two types are one was reported, and its message shows the types as they were then: `state` is the one before it, in an item, and `begun` what was left up to there, by the items before and by this one.
-- No bound variable stands in the two nodes. `enters`: types that enter the state before the items, and meet the conditions before the demand, go on to it, and the demand is that theirs are one. `reads`: each reading of it, in a context in whose types of nodes no unknown type stands, meets the
-- conditions before the demand, which is that the types of the two nodes are one. The demand is the one of the place `before` among those that are judged, and `earlier` of those before it aren't kept.
pub record ItemStop (E : Choice → Environment) (asks : Asks) (a : Sight) (G : Letters) (b : Sight) (left : List Left) (judged : List Judgement) (earlier : ℕ) (r : Report) : Type 0 where
  pub state : Sight
  pub begun : List Left
  pub found : NodeRef
  pub wanted : NodeRef
  pub names : List Entry
  pub site : Site
  pub before : ℕ
  pub judged_so : slice_get judged before ≡ Some (judged_at site false false)
  pub counts : refused (take before judged) ≡ earlier
  pub shows : ShowsBoth state.nodes names found wanted r.message
  pub unbound : HaveNoBound state.nodes found.0 wanted.0
  pub up_to : UpToItem a G state (letters_left begun)
  pub are_begun : AreBegun begun left
  pub lasts : LastsOutside state (letters_left begun) b (letters_left left ++ G)
  pub enters : (V : Types) (c : Context) → EntersItems E a G V c → AreKept c.kept judged → (k : ℕ) (s : Site) (at : Place) (d : Demand) → StopsAt c.kept (asks c) before k s at d → GoesToItem a state begun found wanted d V c.chosen
  pub reads : (V : Types) (c : Context) → ReadsItems E state [] begun judged V c → ((n : ℕ) → IsKnown (c.chosen.type_at n)) → ItemStopped (asks c) before site r.at found wanted names V c

-- each report that two types differ has such a stop, at a demand before which as many aren't kept as reports come before it
abbrev pub AreItemStops : (E : Choice → Environment) → Asks → Sight → Letters → Sight → List Left → List Judgement → List Report → Type 0
AreItemStops E asks a G b left judged told = (k : ℕ) (r : Report) → slice_get told k ≡ Some r → r.kind ≡ fault.Equal → ItemStop E asks a G b left judged k r

-- the same where there is a reading of the state after items
abbrev pub StopsItems : (E : Choice → Environment) → Asks → Sight → Letters → Sight → Letters → List Left → List Judgement → List Report → Type 0
StopsItems E asks a G b G' left judged told = (V : Types) (c : Context) → ReadsItems E b G' left judged V c → AreItemStops E asks a G b left judged told
