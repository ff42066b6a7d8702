-- The bindings of a group as the code closes them, and what their `let` needs to be carried.
use Rattle.std.specs.Prelude.{◌≡◌, ℕ, ◌==◌, Bool, List, [], ◌∷◌, ◌++◌, map, Option, Some, None, if◌then◌else◌}
use Rattle.type_model.specs.Types.{Typ}
use Rattle.signature_model.specs.Declarations.{Name}
use Rattle.typing_model.specs.Contexts.{Choice, Context, Bound}
use Rattle.typing_model.specs.Parts.{Binding}
use Rattle.typing_model.specs.Bindings.{generalises}
use Rattle.env_table.specs.declared.entries.Entry.{Entry}
use Rattle.typing_conditions.specs.Sights.{Sight, Letters}
use Rattle.typing_conditions.specs.Frames.{Frame}
use Rattle.typing_conditions.specs.Meanings.{Means}
use Rattle.typing_conditions.specs.Carrying.{Asks, Scope, Carried}
use Rattle.typing_conditions.specs.Hiding.{AreDone}
use Rattle.typing_conditions.specs.Surroundings.{Declared, context_of}
use Rattle.pattern_rows.specs.Bounds.{Bind, AllBound}
use Rattle.binding_rows.specs.Decided.{IsAmong}

-- a binding as the code closes it: its names, the node of its right side, and whether its names are generalised
pub record ToClose : Type 0 where
  pub names : List Bind
  pub right : ℕ
  pub general : Bool

-- it stands for one of the definitions, which generalise its names in the same case in each context among the names around the group
pub record IsToClose (D : Declared) (env : List Entry) (F : Frame) (b : Sight) (G : Letters) (x : Binding) (y : ToClose) : Type 0 where
  pub names : AllBound F b G x.pattern.names y.names
  pub right : Means F b G (λ ch. ch.type_at x.body.node) y.right
  pub decides : (c : Context) → IsAmong D env c → generalises c x ≡ y.general

-- bindings stand for others, one by one and in order
pub data AllToClose (D : Declared) (env : List Entry) (F : Frame) (b : Sight) (G : Letters) : List Binding → List ToClose → Type 0 where
  none_to_close : AllToClose D env F b G [] []
  one_to_close : {x : Binding} {xs : List Binding} {y : ToClose} {ys : List ToClose} → IsToClose D env F b G x y → AllToClose D env F b G xs ys → AllToClose D env F b G (x ∷ xs) (y ∷ ys)

-- the nodes of names
abbrev pub bind_nodes : List Bind → List ℕ
bind_nodes [] = []
bind_nodes (n ∷ ns) = n.node.0 ∷ bind_nodes ns

-- the entries of names
abbrev pub bind_entries : List Bind → List Entry
bind_entries [] = []
bind_entries (n ∷ ns) = n.entry ∷ bind_entries ns

-- the names of all bindings
abbrev pub names_closed : List ToClose → List Bind
names_closed [] = []
names_closed (y ∷ ys) = y.names ++ names_closed ys

-- the nodes whose types are limited: of right sides that aren't generalised, and of the names that they bind
abbrev pub limited_nodes : List ToClose → List ℕ
limited_nodes [] = []
limited_nodes (y ∷ ys) = if y.general then limited_nodes ys else y.right ∷ bind_nodes y.names ++ limited_nodes ys

-- the types of these in the definitions, by what is chosen
abbrev pub held_at : Choice → List Binding → List ToClose → List Typ
held_at ch [] ys = []
held_at ch (x ∷ xs) [] = []
held_at ch (x ∷ xs) (y ∷ ys) = if y.general then held_at ch xs ys else ch.type_at x.body.node ∷ map (λ (n : Bound). n.has_type (context_of ch)) x.pattern.names ++ held_at ch xs ys

-- all types that a `let` of an item holds
abbrev pub held_types : ℕ → List Name → List Binding → List ToClose → Choice → List Typ
held_types owner names xs ys ch = map (ch.written owner) names ++ held_at ch xs ys

-- the nodes of those among some names that are written
abbrev pub written_nodes : (Name → Option ℕ) → List Name → List ℕ
written_nodes written [] = []
written_nodes written (x ∷ xs) = elim (written x) [ None ↦ written_nodes written xs | Some m ↦ m ∷ written_nodes written xs ]

-- nodes of three kinds together
unfoldable pub together : List ℕ → List ℕ → List ℕ → List ℕ
together ms ns ks = ms ++ (ns ++ ks)

-- what is held at each level: these nodes at one level, and at others what was held before
abbrev pub held_from : ℕ → List ℕ → (ℕ → List ℕ) → ℕ → List ℕ
held_from level ns before k = if k == level then ns else before k

-- a group is typed, with letters of its own, where this is asked
pub record GroupToClose (D : Declared) (env : List Entry) (I : Frame) (scope : Scope) (asks : Asks) (b : Sight) (G : Letters) (c : Sight) (xs : List Binding) (ys : List ToClose) : Type 0 where
  pub own : Letters
  pub carried : Carried I scope asks b G c (own ++ G)
  pub done : AreDone c carried.hidden own
  pub typed : AllToClose D env I c (own ++ G) xs ys
