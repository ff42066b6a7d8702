-- Nodes that have types by a choice.
use Rattle.std.specs.Prelude.{◌≡◌, ℕ, min, List, [], ◌∷◌, map, slice_get, Some}
use Rattle.type_model.specs.Types.{Typ}
use Rattle.signature_model.specs.Declarations.{Name}
use Rattle.typing_model.specs.Contexts.{Choice}
use Rattle.typing_model.specs.BuiltIns.{int_type, char_type, string_type, float_type, unit_type, bool_type, exn_type}
use Rattle.type_nodes.specs.Readings.{Types}
use Rattle.level_unify.specs.Solutions.{Loose}
use Rattle.typing_conditions.specs.Sights.{Sight, Letters, Agrees}
use Rattle.typing_conditions.specs.Frames.{Frame, IsOpenAt, IsOpen}

-- a node has a type by the choice, under all types that fit and agree with it, and the row may unify it
pub record Means (F : Frame) (a : Sight) (G : Letters) (type : Choice → Typ) (m : ℕ) : Type 0 where
  pub open_node : IsOpen F a m
  pub is : (V : Types) (ch : Choice) → Loose a.nodes V → Agrees F.owner a G V ch → type ch ≡ V m

-- nodes have types, one by one
pub data AllMean (F : Frame) (a : Sight) (G : Letters) : List (Choice → Typ) → List ℕ → Type 0 where
  none_mean : AllMean F a G [] []
  one_means : {type : Choice → Typ} {types : List (Choice → Typ)} {m : ℕ} {ms : List ℕ} → Means F a G type m → AllMean F a G types ms → AllMean F a G (type ∷ types) (m ∷ ms)

-- the types by a choice
abbrev pub types_by : Choice → List (Choice → Typ) → List Typ
types_by ch types = map (λ (type : Choice → Typ). type ch) types

-- the built-in types have nodes
pub record KnowsFixed (F : Frame) (a : Sight) : Type 0 where
  pub int : Means F a [] (λ ch. int_type) a.fixed.int
  pub char : Means F a [] (λ ch. char_type) a.fixed.char
  pub string : Means F a [] (λ ch. string_type) a.fixed.string
  pub float : Means F a [] (λ ch. float_type) a.fixed.float
  pub unit : Means F a [] (λ ch. unit_type) a.fixed.unit
  pub bool : Means F a [] (λ ch. bool_type) a.fixed.bool
  pub exn : Means F a [] (λ ch. exn_type) a.fixed.exn

-- the row may unify the nodes of the type variables written so far, whose variables are of level 1 at most: only the item's own `let` generalises them;
-- and these type variables are among finitely many names
pub record KnowsWritten (F : Frame) (a : Sight) : Type 0 where
  pub each : (x : Name) (m : ℕ) → a.written x ≡ Some m → IsOpenAt F a (min F.level 1) m
  pub names : List Name
  pub listed : (x : Name) (m : ℕ) → a.written x ≡ Some m → (k : ℕ) × (slice_get names k ≡ Some x)
