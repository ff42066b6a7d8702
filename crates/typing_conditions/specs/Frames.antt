-- The frame in which a row is typed: what it may touch, and at which level it stands.
use Rattle.std.specs.Prelude.{◌≡◌, ◌≢◌, ◌⊎◌, ℕ, suc, ◌<◌, ◌≤◌, Bool, true, List, slice_get, Some}
use Rattle.type_model.specs.Types.{occurs}
use Rattle.signature_model.specs.Declarations.{Name}
use Rattle.type_nodes.specs.Nodes.{Node, Var, bound_level, IsSound, IsNode}
use Rattle.type_nodes.specs.Readings.{Types}
use Rattle.typing_conditions.specs.Locals.{IsLow, IsOwn, Within, Local, IsContext}
use Rattle.typing_conditions.specs.Standing.{IsIn}
use Rattle.typing_conditions.specs.Sights.{Sight}

-- The nodes at a row's start, with their own types; the roots from which it may change nodes; for each lower level the nodes that are held there;
-- its level, the item whose type variables are written in it, and whether all that is known of names is (`KnowsNames`), so that no letter is in doubt.
pub record Frame : Type 0 where
  pub start : List Node
  pub types : Types
  pub roots : List ℕ
  pub held : ℕ → List ℕ
  pub level : ℕ
  pub owner : ℕ
  pub known : Bool

-- the free variables of the roots are of at most the frame's level, which isn't that of bound variables
pub record IsFrame (F : Frame) : Type 0 where
  pub own : IsOwn F.start F.types
  pub context : IsContext F.start F.types F.roots F.level
  pub free : F.level < bound_level

-- the node of a type variable that is written
abbrev pub IsWritten : Sight → ℕ → Type 0
IsWritten a n = (x : Name) × (a.written x ≡ Some n)

-- a node is held at a level: by the frame, or as that of a written type variable, which only an item's own `let` generalises, at the lowest level
abbrev pub IsHeld : Frame → Sight → ℕ → ℕ → Type 0
IsHeld F a k n = IsIn (F.held k) n ⊎ ((1 ≤ k) × IsWritten a n)

-- A state that typing in a frame reaches: up to it only what the frame allows was touched, and its level is the frame's.
pub record Reaches (F : Frame) (a : Sight) : Type 0 where
  pub frame : IsFrame F
  pub sound : IsSound a.nodes
  pub level : a.level ≡ F.level
  pub held : ℕ → List ℕ
  pub only_held : (k n : ℕ) → k < F.level → IsIn (held k) n → IsHeld F a k n
  pub local : (J : Types) → IsOwn a.nodes J → Local F.start a.nodes F.types J F.roots held F.level

-- A node that was made since the start or stands in the roots, and whose variables are free, of at most a level.
pub record IsOpenAt (F : Frame) (a : Sight) (level n : ℕ) : Type 0 where
  pub reached : Reaches F a
  pub inside : IsNode a.nodes n
  pub within : Within F.start F.roots n
  pub free : (J : Types) → IsOwn a.nodes J → (v : ℕ) → occurs v (J n) ≡ true → IsLow a.nodes level v

-- a node that a row may unify: such a node at the frame's level
abbrev pub IsOpen : Frame → Sight → ℕ → Type 0
IsOpen F a n = IsOpenAt F a F.level n

-- each of these nodes is open
abbrev pub AreOpen : Frame → Sight → List ℕ → Type 0
AreOpen F a ms = (k m : ℕ) → slice_get ms k ≡ Some m → IsOpen F a m

-- A root of a scheme, of which a row may take instances: the same, but that bound variables may stand in it.
pub record IsRoot (F : Frame) (a : Sight) (n : ℕ) : Type 0 where
  pub inside : IsNode a.nodes n
  pub within : Within F.start F.roots n
  pub low : (J : Types) → IsOwn a.nodes J → (v l o : ℕ) → occurs v (J n) ≡ true → slice_get a.nodes v ≡ Some (Var l o) → l ≢ bound_level → l ≤ F.level

-- the frame one level further in that starts at a state, as the right sides of a `let` are typed in it
abbrev pub inner_frame : Frame → Sight → Types → List ℕ → (ℕ → List ℕ) → Frame
inner_frame F a J roots held = record { start = a.nodes; types = J; roots = roots; held = held; level = suc F.level; owner = F.owner; known = F.known }

-- What such a frame needs: it starts at a state that is reached, J are the nodes' own types, its roots are roots of the frame around it, with the nodes of all
-- written type variables, and below the outer level nothing more is held.
pub record GoesIn (F : Frame) (a : Sight) (J : Types) (roots : List ℕ) (held : ℕ → List ℕ) : Type 0 where
  pub reached : Reaches F a
  pub own : IsOwn a.nodes J
  pub are_roots : (k r : ℕ) → slice_get roots k ≡ Some r → IsRoot F a r
  pub written_in : (x : Name) (m : ℕ) → a.written x ≡ Some m → IsIn roots m
  pub keeps_held : (k n : ℕ) → k < F.level → IsIn (held k) n → IsIn (F.held k) n
  pub free : suc F.level < bound_level
