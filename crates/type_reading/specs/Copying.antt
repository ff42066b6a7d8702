-- Copies of types with other paths and types in the place of origins (Leroy 2000, A modular module system, for substitutions of paths).
use Rattle.std.specs.Prelude.{◌≡◌, ◌≢◌, ◌⊎◌, ℕ, zero, suc, ◌==◌, Bool, false, List, [], ◌∷◌, ◌++◌, All, length, map, slice_get, Option, Some, None, if◌then◌else◌}
use Rattle.text_terms.specs.Bytes.{str_bytes}
use Rattle.type_model.specs.Types.{Path, Typ, Typs, types_of}
use Rattle.type_model.specs.Types.{Typ as type, Typs as types}
use Rattle.type_model.specs.Substitutions.{Subst, apply}
use Rattle.type_model.specs.Origins.{same_path}
use Rattle.type_terms.specs.declared.types.Origin.{Origin}
use Rattle.type_nodes.specs.Nodes.{Node, Var, Rigid, Arrow, Tuple, Con, IsNode, parts, bound_level}
use Rattle.type_nodes.specs.Links.{root, reading, IsFree, IsComposite}
use Rattle.type_nodes.specs.Readings.{Types, IsReading}
use Rattle.type_nodes.specs.Views.{numbers}
use Rattle.signature_model.specs.Changes.{Change, among, argument, change}
use Rattle.level_unify.specs.Copies.{Table, table_of, image}
use Rattle.level_unify.specs.Walks.{StandsIn}
use Rattle.type_reading.specs.declared.changes.Changes.{Changes}
use Rattle.type_reading.specs.declared.changes.Real.{Real}
use Rattle.type_reading.specs.declared.changes.Put.{Put}
use Rattle.type_reading.specs.declared.changes.Put.TheVariants as put
use Rattle.type_reading.specs.declared.copies.Copying.{Copying}
use Rattle.type_reading.specs.declared.copies.Copies.{Copies}
use Rattle.type_reading.specs.declared.copies.Seen.{Seen}
use Rattle.type_reading.specs.declared.copies.Seen.TheVariants as seen
use Rattle.type_reading.specs.declared.copies.Task.{Task}
use Rattle.type_reading.specs.declared.copies.Task.TheVariants.{Enter, Leave}
use Rattle.type_reading.specs.declared.copies.ForBound.TheVariants as bound
use Rattle.type_reading.specs.declared.copies.ForUnknown.TheVariants as unknown

-- the paths of origins
abbrev pub paths_of : List Origin → List Path
paths_of os = map (λ (o : Origin). o.path.items) os

-- the first type for an origin, or else the other
abbrev pub real_or : Put → Path → List Real → Put
real_or other o [] = other
real_or other o (r ∷ rs) = if same_path o r.origin.path.items then put.Type r.root r.arity else real_or other o rs

-- what stands in the place of an origin: a type, or else the number in front of its path, or else itself
abbrev pub put_of : Changes → Path → Put
put_of c o = real_or (if among o (paths_of c.made.items) then put.Path c.number else put.Itself) o c.real.items

-- whether a type is this variable
abbrev pub is_variable : ℕ → Typ → Bool
is_variable v (type.Var w) = v == w
is_variable v (type.Arrow a b) = false
is_variable v (type.Tuple ts) = false
is_variable v (type.Con o ts) = false

-- the variables k, k + 1 and so on in place of those that these types are, by the first place of each; the empty tuple in place of others
abbrev pub by_places : ℕ → Typs → Subst
by_places k types.Nil v = type.Tuple types.Nil
by_places k (types.Cons t ts) v = if is_variable v t then type.Var k else by_places (suc k) ts v

-- the last of several types
abbrev pub last_of : Typ → Typs → Typ
last_of t types.Nil = t
last_of t (types.Cons u us) = last_of u us

-- what a root over so many parameters stands for, with the variables 0, 1 and so on in place of the parameters: over some the last part of a tuple behind them
abbrev pub declared : ℕ → Typ → Typ
declared zero t = t
declared (suc k) (type.Tuple ts) = apply (by_places 0 ts) (last_of (type.Tuple types.Nil) ts)
declared (suc k) (type.Var v) = type.Var v
declared (suc k) (type.Arrow a b) = type.Arrow a b
declared (suc k) (type.Con o ts) = type.Con o ts

-- the parameters and the body behind them: the parts of a tuple, or the root itself where there is none
abbrev pub IsBehind : List Node → (n arity : ℕ) → List ℕ → ℕ → Type 0
IsBehind nodes n zero ps body = (ps ≡ []) × (body ≡ n)
IsBehind nodes n (suc k) ps body = reading nodes n ≡ Some (Tuple (ps ++ body ∷ []))

-- a node that reads as a bound variable
abbrev pub ReadsBound : List Node → ℕ → Type 0
ReadsBound nodes p = (scope : ℕ) × (reading nodes p ≡ Some (Var bound_level scope))

-- a root over so many parameters, which are bound variables; no other variable stands in its body
pub record IsDeclared (nodes : List Node) (n arity : ℕ) : Type 0 where
  pub parameters : List ℕ
  pub body : ℕ
  pub inside : IsNode nodes n
  pub count : length parameters ≡ arity
  pub behind : IsBehind nodes n arity parameters body
  pub bound : All (ReadsBound nodes) parameters
  pub closed : (v level scope : ℕ) → StandsIn nodes v body → slice_get nodes v ≡ Some (Var level scope) → (k : ℕ) × (slice_get (map (root nodes) parameters) k ≡ Some v)

-- each type that stands in the place of an origin is that of a declaration
abbrev pub AreDeclared : List Node → List Real → Type 0
AreDeclared nodes rs = All (λ (r : Real). IsDeclared nodes r.root.0 r.arity) rs

-- m is a node, and at each reading its type is what a declared root stands for, with the arguments in place of its parameters
pub record IsDeclaredOver (nodes : List Node) (n arity : ℕ) (args : List ℕ) (m : ℕ) : Type 0 where
  pub inside : IsNode nodes m
  pub reads : (V : Types) → IsReading nodes V → V m ≡ apply (argument (types_of (map V args))) (declared arity (V n))

-- the first type for an origin, at a reading
abbrev pub real_at : Types → Path → List Real → Option Typ
real_at V o [] = None
real_at V o (r ∷ rs) = if same_path o r.origin.path.items then Some (declared r.arity (V r.root.0)) else real_at V o rs

-- what stands in the place of origins, at a reading: a type, or else the number in front of the path, or else the origin itself
abbrev pub change_by : Changes → Types → Change
change_by c V = record { path = λ o. if among o (paths_of c.made.items) then c.number ∷ o else o; real = λ o. real_at V o c.real.items }

-- bound variables and unknown types stay as they are
pub record LeavesVariables (how : Copying) : Type 0 where
  pub bound : how.bound ≡ bound.Itself
  pub unknown : how.unknown ≡ unknown.Itself

-- a variable that isn't bound: a free one, or a rigid one
abbrev pub IsUnbound : List Node → ℕ → Type 0
IsUnbound nodes v = IsFree nodes v ⊎ (IsNode nodes v × (reading nodes v ≡ Some Rigid))

-- the change leaves as they are the types of the variables in n that aren't bound
abbrev pub KeepsUnbound : List Node → (Types → Change) → Types → ℕ → Type 0
KeepsUnbound nodes c V n = (v : ℕ) → StandsIn nodes v n → IsUnbound nodes v → change (c V) (V v) ≡ V v

-- m is a node, and at each reading that keeps the variables that aren't bound its type is n's after a change
pub record IsChanged (nodes : List Node) (c : Types → Change) (n m : ℕ) : Type 0 where
  pub inside : IsNode nodes m
  pub reads : (V : Types) → IsReading nodes V → KeepsUnbound nodes c V n → V m ≡ change (c V) (V n)

-- each copy that is kept is that of a node after a change
pub record AreChanged (nodes : List Node) (c : Types → Change) (T : Table) : Type 0 where
  pub each : (n m : ℕ) → T n ≡ Some m → IsNode nodes n × IsChanged nodes c n m

-- nothing is left to be copied, the types in the place of origins are those of declarations, and each copy that is kept is that of a node after the change
pub record KeepsCopies (nodes : List Node) (changes : Changes) (copies : Copies) : Type 0 where
  pub reals : AreDeclared nodes changes.real.items
  pub each : (n m : ℕ) → table_of copies.table n ≡ Some m → IsNode nodes n × IsChanged nodes (change_by changes) n m
  pub done : copies.todo.items ≡ []

-- nodes with their copies
abbrev pub AreCopied : List Node → (Types → Change) → Table → List ℕ → Type 0
AreCopied nodes c T ms = All (λ p. IsNode nodes p × IsChanged nodes c p (image nodes T p)) ms

-- n gets the copy m, and each other node keeps its own
pub record SetsCopy (T T' : Table) (n m : ℕ) : Type 0 where
  pub own : T' n ≡ Some m
  pub others : (k : ℕ) → k ≢ n → T' k ≡ T k

-- the node that is seen; what is no variable and has no parts is rigid
abbrev pub seen_node : Seen → Node
seen_node (seen.Variable level scope) = Var level scope
seen_node seen.Other = Rigid
seen_node (seen.Arrow a b) = Arrow a.0 b.0
seen_node (seen.Tuple ms) = Tuple (numbers ms.items)
seen_node (seen.Con o ms) = Con o.path.items (str_bytes o.name) (numbers ms.items)

-- the node of a task
abbrev pub task_node : Task → ℕ
task_node (Enter n) = n.0
task_node (Leave n) = n.0

-- a root has a copy, or a task will give it one
abbrev pub IsAhead : List Node → Table → List Task → ℕ → Type 0
IsAhead nodes T [] r = T r ≢ None
IsAhead nodes T (t ∷ ts) r = (root nodes (task_node t) ≡ r) ⊎ IsAhead nodes T ts r

-- a task that can be done after those behind it: a node is entered; a root is left after its parts
abbrev pub IsReady : List Node → Table → Task → List Task → Type 0
IsReady nodes T (Enter n) ts = IsNode nodes n.0
IsReady nodes T (Leave n) ts = IsNode nodes n.0 × (root nodes n.0 ≡ n.0) × ((c : Node) → slice_get nodes n.0 ≡ Some c → IsComposite c × All (λ p. IsNode nodes p × IsAhead nodes T ts (root nodes p)) (parts c))

-- tasks that can be done, the last one first
abbrev pub AreReady : List Node → Table → List Task → Type 0
AreReady nodes T [] = Unit {0}
AreReady nodes T (t ∷ ts) = IsReady nodes T t ts × AreReady nodes T ts

-- where copying stands: what is kept is right, the tasks can be done, and then the node that was asked for has a copy
pub record Stands (nodes : List Node) (changes : Changes) (T : Table) (tasks : List Task) (aim : ℕ) : Type 0 where
  pub reals : AreDeclared nodes changes.real.items
  pub kept : AreChanged nodes (change_by changes) T
  pub ready : AreReady nodes T tasks
  pub ahead : IsAhead nodes T tasks (root nodes aim)
  pub inside : IsNode nodes aim
