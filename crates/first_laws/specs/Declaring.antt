-- What is declared from one state between items to a later one: types with their constructors and labels, exceptions, and values that are specified.
use Rattle.std.specs.Prelude.{◌≡◌, ℕ, ◌<◌, Bool, true, List, ◌++◌, length, slice_get, Some}
use Rattle.type_model.specs.Types.{Typ}
use Rattle.type_model.specs.Schemes.{Scheme}
use Rattle.signature_model.specs.Entries.{Environment}
use Rattle.signature_model.specs.Matching.{IsKnown}
use Rattle.typing_model.specs.Modules.{all_bound}
use Rattle.typing_model.specs.Contexts.{Choice}
use Rattle.type_nodes.specs.Nodes.{Node, Var, bound_level, IsSound}
use Rattle.type_nodes.specs.Readings.{Types, IsReading}
use Rattle.env_table.specs.declared.entries.Entry.{Entry}
use Rattle.typing_conditions.specs.Locals.{IsOwn, stands_in_any, Refines}
use Rattle.typing_conditions.specs.Environments.{EnvAs}
use Rattle.typing_conditions.specs.Declared.{UnknownApart, NoneUnknown, RootAs, DeclaredAs, ExceptionAs}
use Rattle.typing_conditions.specs.Surroundings.{HasOwnLabels}
use Rattle.typing_conditions.specs.Sights.{AreScopesIn, Sight, Letters}
use Rattle.typing_steps.specs.Typing.{as_declared}
use Rattle.binding_rows.specs.Outside.{AreOf, Outside}

-- no type is recorded for the nodes of the text, and what was noted is so still, with the same names in scope
pub record NoneTyped (a b : Sight) : Type 0 where
  pub types : (i p : ℕ) → b.types i p ≡ a.types i p
  pub noted : (i p : ℕ) → a.noted i p ≡ true → b.noted i p ≡ true
  pub scopes : AreScopesIn a.scopes b.scopes

-- types were made, no type was recorded for the nodes of the text, and what was noted is so still, with the same names in scope
pub record OnlyTypes (a b : Sight) : Type 0 where
  pub sound : IsSound b.nodes
  pub level : b.level ≡ a.level
  pub types : (i p : ℕ) → b.types i p ≡ a.types i p
  pub noted : (i p : ℕ) → a.noted i p ≡ true → b.noted i p ≡ true
  pub scopes : AreScopesIn a.scopes b.scopes
  pub refines : (K : Types) → IsOwn b.nodes K → Refines a.nodes b.nodes K
  pub reads : (V : Types) → IsReading b.nodes V → IsReading a.nodes V

-- in some roots all variables are bound
pub record AreBoundIn (nodes : List Node) (rs : List ℕ) : Type 0 where
  pub inside : (k r : ℕ) → slice_get rs k ≡ Some r → r < length nodes
  pub bound : (K : Types) → IsOwn nodes K → (v : ℕ) → stands_in_any K rs v ≡ true → (scope : ℕ) × (slice_get nodes v ≡ Some (Var bound_level scope))

-- A root stands for the scheme of a value that is specified by its type: all variables are the scheme's own, and no unknown type stands in it (OCaml manual, 11.10).
pub record SpecifiedAs (nodes : List Node) (C : List ℕ) (N : Types) (r : ℕ) (sc : Scheme) : Type 0 where
  pub arity : ℕ
  pub type : Typ
  pub scheme : sc ≡ all_bound type
  pub known : IsKnown type
  pub root : RootAs nodes C N arity r type

-- All that is to be known of names is known of these too, where it is of the old ones: no variable has an unknown type as its name, and each type with labels is a type of its own.
pub record AddsKnown (nodes : List Node) (C : List ℕ) (old new : Types) (more : List Entry) (E : Environment) : Type 0 where
  pub plain : NoneUnknown old → NoneUnknown new
  pub entries : EnvAs (SpecifiedAs nodes C new) (λ d e. DeclaredAs nodes C new d e × HasOwnLabels e) (ExceptionAs nodes C new) more E

-- Entries of the code are those of the definitions, each value among them a specified one: there are further roots, in which all variables are bound, and names for these. The unknown types
-- among all names are those of the type expressions `older`. `plain`: whether all that is to be known of these names is.
pub record Declares (a b : Sight) (roots : List ℕ) (names : Types) (more : List Entry) (E : Environment) : Type 0 where
  pub new_roots : List ℕ
  pub new_names : Types
  pub same : (v : ℕ) → v < length a.nodes → new_names v ≡ names v
  pub apart : UnknownApart new_names
  pub older : List ℕ
  pub unknown : AreOf older new_names
  pub are_bound : AreBoundIn b.nodes new_roots
  pub entries : EnvAs (SpecifiedAs b.nodes (new_roots ++ roots) new_names) (DeclaredAs b.nodes (new_roots ++ roots) new_names) (ExceptionAs b.nodes (new_roots ++ roots) new_names) more E
  pub plain : Bool
  pub keeps : plain ≡ true → AddsKnown b.nodes (new_roots ++ roots) names new_names more E

-- the next item starts among these names, where the unknown types among them are those of the type expressions U
pub record StartsAmong (c : Sight) (G : Letters) (env : List Entry) (E : Choice → Environment) (U : List ℕ) : Type 0 where
  pub outside : Outside as_declared c G env E
  pub older : outside.older ≡ U

-- From one state between items to a later one names were added that are declared: the entries `more`, which stand for F. There are further roots, in which all variables are bound, and the variables of before have the names that they had.
pub record Grows {a b : Sight} {G H : Letters} {env after : List Entry} {E E' : Choice → Environment} (at : Outside as_declared a G env E) (to : Outside as_declared b H after E') (more : List Entry) (F : Environment) : Type 0 where
  pub on : OnlyTypes a b
  pub new_roots : List ℕ
  pub roots : to.roots ≡ new_roots ++ at.roots
  pub same : (v : ℕ) → v < length a.nodes → to.names v ≡ at.names v
  pub are_bound : AreBoundIn b.nodes new_roots
  pub entries : EnvAs (SpecifiedAs b.nodes to.roots to.names) (DeclaredAs b.nodes to.roots to.names) (ExceptionAs b.nodes to.roots to.names) more F

-- The next item starts among the names of before and these, which stand for F, where the unknown types among them are those of the type expressions U.
pub record StartsAfter {a : Sight} {G : Letters} {env : List Entry} {E : Choice → Environment} (at : Outside as_declared a G env E) (c : Sight) (H : Letters) (more : List Entry) (F : Environment) (U : List ℕ) : Type 0 where
  pub outside : Outside as_declared c H (more ++ env) (λ ch. F ++ E ch)
  pub older : outside.older ≡ U
  pub grows : Grows at outside more F
