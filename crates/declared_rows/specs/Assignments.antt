-- What the nodes of a state denote inside a declaration: the types that an assignment to their variables gives them.
use Rattle.std.specs.Prelude.{◌≡◌, ◌≢◌, ℕ, ◌<◌, ◌≤◌, true, List, [], ◌∷◌, ◌++◌, length, slice_get, Some}
use Rattle.type_model.specs.Types.{Path, Typ}
use Rattle.type_model.specs.Types.{Typ as type, Typs as types}
use Rattle.signature_model.specs.Matching.{is_unknown}
use Rattle.type_nodes.specs.Nodes.{Var, bound_level}
use Rattle.type_nodes.specs.Readings.{Types, IsReading}
use Rattle.level_unify.specs.Solutions.{Loose}
use Rattle.typing_conditions.specs.Locals.{IsOwn, stands_in_any}
use Rattle.typing_conditions.specs.Standing.{IsIn}
use Rattle.typing_conditions.specs.Sights.{Sight, SameAt}
use Rattle.typing_conditions.specs.Frames.{Frame, Reaches, IsOpen}

-- A variable of this scope is assigned a type: that of a parameter, which has its number, or an unknown type of one of the type expressions U that is no older one, whose number its path ends with.
pub data IsAssigned (S : Types) (older U : List ℕ) (arity scope v : ℕ) : Type 0 where
  a_parameter : (k : ℕ) → scope ≢ 0 → k < arity → S v ≡ type.Var k → IsAssigned S older U arity scope v
  an_unknown : (o : Path) (n : ℕ) → scope ≡ 0 → is_unknown o ≡ true → IsIn U n → (IsIn older n → ⊥) → S v ≡ type.Con (o ++ n ∷ []) types.Nil → IsAssigned S older U arity scope v

-- types for the nodes of a state, nodes of which it is known what they denote, and the type expressions of before the declaration that may have unknown types
pub record Assignment : Type 0 where
  pub types : Types
  pub nodes : List ℕ
  pub older : List ℕ

-- An assignment in a declaration over so many parameters: its types fit, its nodes may be unified, and each variable that stands in them is a parameter or an unknown
-- type of one of the type expressions U that is no older one; no two are the same one. The older type expressions are among U.
pub record Assigns (F : Frame) (arity : ℕ) (U : List ℕ) (a : Sight) (A : Assignment) : Type 0 where
  pub reached : Reaches F a
  pub loose : Loose a.nodes A.types
  pub opens : (m : ℕ) → IsIn A.nodes m → IsOpen F a m
  pub each : (J : Types) → IsOwn a.nodes J → (v l o : ℕ) → stands_in_any J A.nodes v ≡ true → slice_get a.nodes v ≡ Some (Var l o) → IsAssigned A.types A.older U arity o v
  pub taken : (k : ℕ) → IsIn A.older k → IsIn U k
  pub apart : (J : Types) → IsOwn a.nodes J → (v w : ℕ) → stands_in_any J A.nodes v ≡ true → stands_in_any J A.nodes w ≡ true → A.types v ≡ A.types w → v ≡ w

-- a node denotes a type by an assignment
pub record Denotes (A : Assignment) (m : ℕ) (t : Typ) : Type 0 where
  pub known : IsIn A.nodes m
  pub is : A.types m ≡ t

-- nodes denote types, one by one
pub data AllDenote (A : Assignment) : List ℕ → List Typ → Type 0 where
  none_denote : AllDenote A [] []
  one_denotes : {m : ℕ} {ms : List ℕ} {t : Typ} {ts : List Typ} → Denotes A m t → AllDenote A ms ts → AllDenote A (m ∷ ms) (t ∷ ts)

-- An assignment goes on to a later state: the types of the nodes of before are the same, what they denote is still known, and each reading was one.
pub record Assigned (F : Frame) (arity : ℕ) (U : List ℕ) (a b : Sight) (A : Assignment) : Type 0 where
  pub after : Assignment
  pub assigns : Assigns F arity U b after
  pub same : SameAt a.nodes A.types after.types
  pub keeps : (m : ℕ) → IsIn A.nodes m → IsIn after.nodes m
  pub older : after.older ≡ A.older
  pub longer : length a.nodes ≤ length b.nodes
  pub reads : (V : Types) → IsReading b.nodes V → IsReading a.nodes V

-- the same, and then a node denotes a type
pub record AssignedTo (F : Frame) (arity : ℕ) (U : List ℕ) (a b : Sight) (A : Assignment) (m : ℕ) (t : Typ) : Type 0 where
  pub on : Assigned F arity U a b A
  pub denotes : Denotes on.after m t

-- the same of several nodes
pub record AllAssigned (F : Frame) (arity : ℕ) (U : List ℕ) (a b : Sight) (A : Assignment) (ms : List ℕ) (ts : List Typ) : Type 0 where
  pub on : Assigned F arity U a b A
  pub denote : AllDenote on.after ms ts

-- The frame of a declaration between items, one level further in: nothing is held, and in its roots all variables are bound.
pub record IsDeclaring (F : Frame) : Type 0 where
  pub level : F.level ≡ 1
  pub held : (k n : ℕ) → IsIn (F.held k) n → ⊥
  pub bound : (v : ℕ) → stands_in_any F.types F.roots v ≡ true → (scope : ℕ) × (slice_get F.start v ≡ Some (Var bound_level scope))
