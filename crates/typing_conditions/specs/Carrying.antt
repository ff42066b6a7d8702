-- What a call carries from one state to another: the conditions of what it types.
use Rattle.std.specs.Prelude.{◌≡◌, ◌⊎◌, ℕ, ◌≤◌, Bool, true, false, List, [], ◌∷◌, ◌++◌, length, take, slice_get, ◌==◌, Some}
use Rattle.tree_model.specs.Trees.{Place}
use Rattle.type_model.specs.Types.{Typ, occurs}
use Rattle.signature_model.specs.Declarations.{Name}
use Rattle.signature_model.specs.Entries.{Referent, a_value, Environment}
use Rattle.signature_model.specs.Entries.{Entry as Named}
use Rattle.signature_model.specs.Matching.{IsKnown}
use Rattle.typing_model.specs.Demands.{Site, Demand, equal, Condition, demand, treated, AllHold}
use Rattle.typing_model.specs.Contexts.{Choice, Variables, Context}
use Rattle.type_terms.specs.declared.types.NodeRef.{NodeRef}
use Rattle.type_nodes.specs.Nodes.{Node, IsSound, IsNode}
use Rattle.type_nodes.specs.Readings.{Types, Fits, IsReading}
use Rattle.level_unify.specs.declared.fault.Clash.{Clash}
use Rattle.level_unify.specs.Solutions.{Loose, HaveNoBound}
use Rattle.level_unify.specs.Instances.{is_bound}
use Rattle.level_unify.specs.Unification.{Clashes}
use Rattle.env_table.specs.declared.entries.Entry.{Entry}
use Rattle.env_table.specs.declared.faults.FaultKind.TheVariants as fault
use Rattle.level_unify.specs.Messages.{equal_text}
use Rattle.type_print.specs.Texts.{ShowTwo}
use Rattle.typing_conditions.specs.Locals.{IsOwn, Refines}
use Rattle.typing_conditions.specs.Sights.{Report, Scopes, AreScopesIn, Recorded, AreTypesIn, Sight, Key, Letters, AreGiven, AreNodes, Agrees, IsInside, SameAt}
use Rattle.typing_conditions.specs.Seeing.{StandsFor, IsSeen}
use Rattle.typing_conditions.specs.Frames.{Frame, Reaches}
use Rattle.typing_conditions.specs.Hiding.{Keeps, HasCopy, IsDone, ArePlaced, NoneDoubtful, Settles}
use Rattle.typing_conditions.specs.Meanings.{Means, KnowsWritten}
use Rattle.typing_conditions.specs.Judging.{Judgement, judged_at, judgements, refused, AreKept, Follows, StartsWith, FallsShort, TellAll, treats_none, Meets}

-- what a part asks, by the context in which it stands
abbrev pub Asks : Type 0
Asks = Context → List Condition

-- the context in which a part stands, as far as the kept demands don't decide it: the environment by what is chosen, and the type variables;
-- and which nodes' demands are made there: of the nodes of all other demands is said before them that they are treated
pub record Scope : Type 0 where
  pub env : Choice → Environment
  pub variables : Variables
  pub held : List Name
  pub own : ℕ → Bool

-- the scope in which the demands of these nodes are made
abbrev pub with_own : (ℕ → Bool) → Scope → Scope
with_own own scope = record { env = scope.env; variables = scope.variables; held = scope.held; own = own }

-- the scope in which the demands of this node are made
abbrev pub at_node : ℕ → Scope → Scope
at_node n scope = with_own (λ m. n == m) scope

-- a context is one of a scope
pub record IsUnder (scope : Scope) (c : Context) : Type 0 where
  pub env : c.env ≡ scope.env c.chosen
  pub variables : c.variables ≡ scope.variables
  pub held : c.held ≡ scope.held

-- each type variable that is written is one of those that the scope holds, which are all of the item
abbrev pub HoldsWritten : Scope → Sight → Type 0
HoldsWritten scope a = (x : Name) (m : ℕ) → a.written x ≡ Some m → (k : ℕ) × (slice_get scope.held k ≡ Some x)

-- no bound variable stands in the type that is chosen for a type variable of the item, be it written yet or not
abbrev pub HoldsUnbound : Frame → Scope → Sight → Choice → Type 0
HoldsUnbound F scope a ch = (k : ℕ) (x : Name) → slice_get scope.held k ≡ Some x → (v : ℕ) → is_bound a.nodes v ≡ true → occurs v (ch.written F.owner x) ≡ false

-- types with which a choice enters a state: they fit, and the choice agrees with what there is
pub record Enters (F : Frame) (scope : Scope) (a : Sight) (G : Letters) (V : Types) (c : Context) : Type 0 where
  pub under : IsUnder scope c
  pub inside : IsInside a G
  pub fits : Fits a.nodes V
  pub agrees : Agrees F.owner a G V c.chosen

-- Types with which a choice is read off a state, under the demands that were kept, where the scope holds what is written, and nothing that is bound.
-- `scopes` and `types` are the names in scope and the types that are recorded in the end, by whatever is typed later: those of the state, and perhaps more.
pub record ReadsOff (F : Frame) (scope : Scope) (b : Sight) (G hidden : Letters) (judged : List Judgement) (V : Types) (c : Context) : Type 0 where
  pub under : IsUnder scope c
  pub reads : IsReading b.nodes V
  pub agrees : Agrees F.owner b G V c.chosen
  pub hidden_too : AreGiven hidden V c.chosen
  pub named : HoldsWritten scope b
  pub unbound : HoldsUnbound F scope b c.chosen
  pub kept : AreKept c.kept judged
  pub scopes : Scopes
  pub in_the_end : AreScopesIn b.scopes scopes
  pub types : Recorded
  pub types_too : AreTypesIn b.types types

-- the names of an environment stand for those of the scope at each reading of a state
abbrev pub SeesScope : Frame → Scope → Sight → Letters → List Entry → Type 0
SeesScope F scope a G env = (V : Types) (ch : Choice) → IsReading a.nodes V → Agrees F.owner a G V ch → HoldsWritten scope a → HoldsUnbound F scope a ch → StandsFor V env (scope.env ch)

-- types go on: they fit what there is now, are as before at the nodes from before, and are those of the choice at what is recorded and given
pub record GoesOn (F : Frame) (a b : Sight) (G : Letters) (V W : Types) (ch : Choice) : Type 0 where
  pub fits : Fits b.nodes W
  pub before : SameAt a.nodes V W
  pub agrees : Agrees F.owner b G W ch

-- each letter has a copy among others
abbrev pub AreCopied : Letters → Letters → Type 0
AreCopied xs ys = (k : ℕ) (x : Key × ℕ) → slice_get xs k ≡ Some x → HasCopy ys x

-- What is made and recorded stays, and is read as before; and typing that reached the state before in a frame reaches the one after.
pub record Stays (F : Frame) (a : Sight) (G : Letters) (b : Sight) (G' : Letters) : Type 0 where
  pub longer : length a.nodes ≤ length b.nodes
  pub loose : (V : Types) → Loose b.nodes V → Loose a.nodes V
  pub reads : (V : Types) → IsReading b.nodes V → IsReading a.nodes V
  pub refines : Reaches F a → (K : Types) → IsOwn b.nodes K → Refines a.nodes b.nodes K
  pub reaches : Reaches F a → Reaches F b
  pub writes : KnowsWritten F a → KnowsWritten F b
  pub recorded : (i p m : ℕ) → a.types i p ≡ Some m → b.types i p ≡ Some m
  pub keeps : Keeps a b
  pub written : (x : Name) (m : ℕ) → a.written x ≡ Some m → b.written x ≡ Some m
  pub given : (V : Types) (ch : Choice) → AreGiven G' V ch → AreGiven G V ch
  pub opens : AreCopied G G'
  pub inside : IsInside a G → IsInside b G'
  pub aloud : b.aloud ≡ a.aloud
  pub item : b.item ≡ a.item
  pub level : b.level ≡ a.level
  pub fixed : b.fixed ≡ a.fixed

-- letters that a row has no more use for stand for nodes of the store still, and have the types of the choice
abbrev pub AreHidden : Letters → Sight → Types → Choice → Type 0
AreHidden hidden b W ch = AreNodes hidden b.nodes × AreGiven hidden W ch

-- the demands are judged as they were, and the types go on, those of hidden letters too
pub record Continues (F : Frame) (asks : Asks) (a b : Sight) (G hidden : Letters) (judged : List Judgement) (V : Types) (c : Context) : Type 0 where
  pub same : judgements c.kept (asks c) ≡ judged
  pub types : Types
  pub on : GoesOn F a b G V types c.chosen
  pub hidden_too : AreHidden hidden b types c.chosen

-- The k-th condition is this demand, which isn't kept; n demands come before it, and the conditions before it hold.
pub record StopsAt (kept : Site → Bool) (cs : List Condition) (n k : ℕ) (s : Site) (at : Place) (d : Demand) : Type 0 where
  pub here : slice_get cs k ≡ Some (demand s at d)
  pub refused : kept s ≡ false
  pub counted : length (judgements kept (take k cs)) ≡ n
  pub holds : AllHold kept (take k cs)

-- conditions say of a node that it is treated in an environment
abbrev pub IsTreated : ℕ → Environment → List Condition → Type 0
IsTreated n env cs = (j : ℕ) × (slice_get cs j ≡ Some (treated n env))

-- an entry before others, unless it is a value
abbrev pub unless_value : Named → Referent → Environment → Environment
unless_value e (a_value s) es = es
unless_value e _ es = e ∷ es

-- an environment without its values, which no type is named by
abbrev pub without_values : Environment → Environment
without_values [] = []
without_values (e ∷ es) = unless_value e e.stands_for (without_values es)

-- The environment in which the demands of a node are made, but for values: the conditions before them treat the node in it; or it is the one around, and the node is one
-- whose demands are made there.
abbrev pub IsAround : Scope → Context → ℕ → Environment → List Condition → Type 0
IsAround scope c n env cs = ((E : Environment) × IsTreated n E cs × (without_values env ≡ without_values E)) ⊎ ((scope.own n ≡ true) × (without_values env ≡ without_values c.env))

-- a message shows the types of two nodes that clash, by the nodes of a store and the names in scope
pub record ShowsBoth (nodes : List Node) (env : List Entry) (found wanted : NodeRef) (message : List ℕ) : Type 0 where
  pub left : IsNode nodes found.0
  pub right : IsNode nodes wanted.0
  pub clash : Clash
  pub clashes : Clashes nodes found wanted clash
  pub first : List ℕ
  pub second : List ℕ
  pub texts : ShowTwo nodes env found.0 wanted.0 first second
  pub says : message ≡ equal_text first second clash.kind

-- What is made and recorded from one state to another, be it at another level and in another frame: it is read as before; and what the frame says of type variables that
-- are written gives that none of them is bound.
pub record UpTo (F : Frame) (a : Sight) (G : Letters) (m : Sight) (H : Letters) : Type 0 where
  pub longer : length a.nodes ≤ length m.nodes
  pub reads : (V : Types) → IsReading m.nodes V → IsReading a.nodes V
  pub recorded : (i p n : ℕ) → a.types i p ≡ Some n → m.types i p ≡ Some n
  pub written : (x : Name) (n : ℕ) → a.written x ≡ Some n → m.written x ≡ Some n
  pub given : (V : Types) (ch : Choice) → AreGiven H V ch → AreGiven G V ch
  pub inside : IsInside a G → IsInside m []
  pub sound : Reaches F a → IsSound m.nodes
  pub bounds : Reaches F a → (v : ℕ) → is_bound a.nodes v ≡ true → is_bound m.nodes v ≡ true
  pub free : Reaches F a → KnowsWritten F a → (V : Types) → IsReading m.nodes V → (x : Name) (n : ℕ) → m.written x ≡ Some n → (v : ℕ) → is_bound m.nodes v ≡ true → occurs v (V n) ≡ false

-- What is there at one state is so at another, and each letter of the first is for the type of a node that is recorded then, or is among the letters of the second.
pub record Lasts (m : Sight) (H : Letters) (b : Sight) (L : Letters) : Type 0 where
  pub longer : length m.nodes ≤ length b.nodes
  pub loose : (V : Types) → Loose b.nodes V → Loose m.nodes V
  pub recorded : (i p n : ℕ) → m.types i p ≡ Some n → b.types i p ≡ Some n
  pub written : (x : Name) (n : ℕ) → m.written x ≡ Some n → b.written x ≡ Some n
  pub letters : (k : ℕ) (x : Key × ℕ) → slice_get H k ≡ Some x → IsDone b L x

-- types go on to a state: they fit, are as before at the nodes from before, and agree with the choice; and a demand is that the types of two nodes are one
pub record GoesTo (F : Frame) (a m : Sight) (H : Letters) (found wanted : NodeRef) (d : Demand) (V : Types) (ch : Choice) : Type 0 where
  pub types : Types
  pub fits : Fits m.nodes types
  pub before : SameAt a.nodes V types
  pub agrees : Agrees F.owner m H types ch
  pub nodes : AreNodes H m.nodes
  pub asks : d ≡ equal (types found.0) (types wanted.0)

-- types with which a choice is read off a state before the end, under the demands that were kept, where the scope holds what is written, and nothing that is bound; no unknown type stands in the types of nodes
pub record ReadsAt (F : Frame) (scope : Scope) (m : Sight) (H : Letters) (judged : List Judgement) (V : Types) (c : Context) : Type 0 where
  pub under : IsUnder scope c
  pub reads : IsReading m.nodes V
  pub agrees : Agrees F.owner m H V c.chosen
  pub named : HoldsWritten scope m
  pub unbound : HoldsUnbound F scope m c.chosen
  pub kept : AreKept c.kept judged
  pub known : (n : ℕ) → IsKnown (c.chosen.type_at n)

-- The demand at a stop, in a context: that the types of these nodes are one. The names of the code stand for those of an environment that is the one in which the demands of its node
-- are made, with values added at most.
pub record Stopped (scope : Scope) (cs : List Condition) (n : ℕ) (s : Site) (at : Place) (found wanted : NodeRef) (names : List Entry) (V : Types) (c : Context) : Type 0 where
  pub place : ℕ
  pub stops : StopsAt c.kept cs n place s at (equal (V found.0) (V wanted.0))
  pub env : Environment
  pub around : IsAround scope c s.node env (take place cs)
  pub stands : StandsFor V names env

-- A demand that two types are one was reported, and its message shows the types as they were then: `state` is the one before it, with the letters that were open or hidden up to there.
-- No bound variable stands in the two nodes. `enters`: types that enter the state before all, and meet the conditions before the demand, go on to it, and the demand is that theirs are one. `reads`: where typing reached the state before all, each reading of this one
-- meets the conditions before the demand, which is that the types of the two nodes are one. The demand is the one of the place `before` among those that are judged, and `earlier` of those before it aren't kept.
pub record Stop (F : Frame) (scope : Scope) (asks : Asks) (a : Sight) (G : Letters) (b : Sight) (L : Letters) (judged : List Judgement) (earlier : ℕ) (r : Report) : Type 0 where
  pub state : Sight
  pub letters : Letters
  pub found : NodeRef
  pub wanted : NodeRef
  pub names : List Entry
  pub site : Site
  pub before : ℕ
  pub judged_so : slice_get judged before ≡ Some (judged_at site false false)
  pub counts : refused (take before judged) ≡ earlier
  pub shows : ShowsBoth state.nodes names found wanted r.message
  pub unbound : HaveNoBound state.nodes found.0 wanted.0
  pub up_to : UpTo F a G state letters
  pub lasts : Lasts state letters b L
  pub enters : HoldsWritten scope b → (V : Types) (c : Context) → Enters F scope a G V c → AreKept c.kept judged → (k : ℕ) (s : Site) (at : Place) (d : Demand) → StopsAt c.kept (asks c) before k s at d → GoesTo F a state letters found wanted d V c.chosen
  pub reads : Reaches F a → (V : Types) (c : Context) → ReadsAt F scope state letters judged V c → Stopped scope (asks c) before site r.at found wanted names V c

-- each report that two types differ has such a stop, at a demand before which as many aren't kept as reports come before it
abbrev pub AreStops : Frame → Scope → Asks → Sight → Letters → Sight → Letters → List Judgement → List Report → Type 0
AreStops F scope asks a G b L judged told = (k : ℕ) (r : Report) → slice_get told k ≡ Some r → r.kind ≡ fault.Equal → Stop F scope asks a G b L judged k r

-- What conditions ask was done, from one state to another, where the letters G are open before and G' after.
-- `sound`: where typing in the frame reached the state before, each reading of the state after meets the conditions, under the demands that were kept, and what
-- was reported are the others, in order; and for each node that is treated the names in scope are recorded, which stand for those of the environment in which it is.
-- `counted`: there are as many reports as demands that weren't kept, whatever may be read off.
-- `follows`: each reading of the state after, whatever demands are kept, asks the demands that were judged, in order, as long as they are kept as they were judged.
-- `complete`: types that fitted before and meet the conditions, under any set of kept demands, keep the same demands and go on; or they are the first not to
-- keep one that was kept. So a demand that wasn't kept never is, together with those before it.
-- `first`: the same of the demands alone for the first conditions, where only they are met.
-- `settled`: hidden letters without doubt belong to rows that were noted between, and those with one key have one node.
-- `clear`: where the frame says that all of names is known, no hidden letter is in doubt.
-- `stops`: what is known where two types were reported to differ.
-- All are for scopes that hold the type variables that are written after it.
pub record Carried (F : Frame) (scope : Scope) (asks : Asks) (a : Sight) (G : Letters) (b : Sight) (G' : Letters) : Type 0 where
  pub stays : Stays F a G b G'
  pub hidden : Letters
  pub settled : Settles a b hidden
  pub clear : F.known ≡ true → ArePlaced b → NoneDoubtful hidden
  pub judged : List Judgement
  pub told : List Report
  pub reports : b.reports ≡ a.reports ++ told
  pub counted : length told ≡ refused judged
  pub sound : Reaches F a → (V : Types) (c : Context) → (l : ReadsOff F scope b G' hidden judged V c) → Meets (IsSeen l.scopes l.types V) c.kept (asks c) judged told
  pub follows : Reaches F a → (V : Types) (c : Context) → ReadsOff F scope b G' hidden [] V c → Follows c.kept (asks c) judged
  pub complete : HoldsWritten scope b → (V : Types) (c : Context) → Enters F scope a G V c → AllHold c.kept (asks c) → Continues F asks a b G' hidden judged V c ⊎ FallsShort (judgements c.kept (asks c)) judged
  pub first : HoldsWritten scope b → (k : ℕ) (V : Types) (c : Context) → Enters F scope a G V c → AllHold c.kept (take k (asks c)) →
      StartsWith judged (judgements c.kept (take k (asks c))) ⊎ FallsShort (judgements c.kept (take k (asks c))) judged
  pub stops : AreStops F scope asks a G b (hidden ++ G') judged told

-- conditions are carried, and then a node has a type
pub record CarriedTo (F : Frame) (scope : Scope) (asks : Asks) (a : Sight) (G : Letters) (b : Sight) (G' : Letters) (type : Choice → Typ) (m : ℕ) : Type 0 where
  pub carried : Carried F scope asks a G b G'
  pub means : Means F b G' type m

-- What a row asks at its end so that its node has the row's type; it asks nothing where that is so already.
pub record EndsAs (n : ℕ) (type : Choice → Typ) (ends : Asks) : Type 0 where
  pub gives : (c : Context) (t : Typ) → AllHold c.kept (ends c) → type c.chosen ≡ t → c.chosen.type_at n ≡ t
  pub holds : (c : Context) → c.chosen.type_at n ≡ type c.chosen → AllHold c.kept (ends c)
  pub silent : (c : Context) → judgements c.kept (ends c) ≡ []
  pub silent_first : (k : ℕ) (c : Context) → judgements c.kept (take k (ends c)) ≡ []
  pub reports_none : (c : Context) → TellAll c.kept (ends c) []
  pub treats : (c : Context) → treats_none (ends c) ≡ true
