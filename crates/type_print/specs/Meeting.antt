-- The variables that were met in types, their names, and what is still to be walked through.
use Rattle.std.specs.Prelude.{◌≡◌, ◌<◌, ℕ, suc, ◌+◌, Bool, true, false, cond, List, [], ◌∷◌, ◌++◌, map, reverse, length, nat_eq, Option, Some, if◌then◌else◌}
use Rattle.std.specs.HashMap.{get}
use Rattle.std.specs.HashSet.{contains}
use Rattle.type_nodes.specs.Nodes.{Node, Var, Rigid, Link, Arrow, Tuple, Con, parts}
use Rattle.type_nodes.specs.Links.{root, reading}
use Rattle.type_print_model.specs.Variables.{variables_of, is_among, rank_in}
use Rattle.type_print.specs.declared.variables.VariableName.{VariableName}
use Rattle.type_print.specs.declared.variables.VariableName.TheVariants as name
use Rattle.type_print.specs.declared.variables.Variables.{Variables}
use Rattle.type_print.specs.declared.variables.Step.{Step}
use Rattle.type_print.specs.declared.variables.Step.TheVariants as step
use Rattle.type_print.specs.Shown.{shown, weight}

-- the variables that nodes are
abbrev pub roots_of : List Node → List ℕ → List ℕ
roots_of nodes ns = map (root nodes) ns

-- whether a variable has one of the two kinds of names, where some are weak
abbrev pub is_weak : List ℕ → ℕ → Bool
is_weak weak v = is_among v weak

-- whether a variable isn't weak, so that its name is a letter
abbrev pub has_letter : List ℕ → ℕ → Bool
has_letter weak v = if is_among v weak then false else true

-- the name of a variable among those of a text, in order
abbrev pub name_given : List ℕ → List ℕ → ℕ → VariableName
name_given weak all v = if is_among v weak then name.Weak (rank_in (is_weak weak) [] v all + 1) else name.Letter (rank_in (has_letter weak) [] v all)

-- how many variables of a kind there are; `seen` are those before
abbrev pub count_in : (ℕ → Bool) → List ℕ → List ℕ → ℕ
count_in test seen [] = 0
count_in test seen (w ∷ ws) = if is_among w seen then count_in test seen ws else if test w then suc (count_in test (w ∷ seen) ws) else count_in test (w ∷ seen) ws

-- each of some variables is among others
abbrev pub AreAmong : List ℕ → List ℕ → Type 0
AreAmong all [] = Unit {0}
AreAmong all (v ∷ vs) = (is_among v all ≡ true) × AreAmong all vs

-- what is kept of variables, and the roots of the nodes whose variables were all met
pub record Met : Type 0 where
  pub weak : ℕ → Bool
  pub name : ℕ → Option VariableName
  pub letters : ℕ
  pub weaks : ℕ
  pub done : ℕ → Bool

-- what the code keeps of the variables that it met
abbrev pub met_of : Variables → Met
met_of vs = record { weak = contains nat_eq vs.weak; name = get nat_eq vs.names; letters = vs.letters; weaks = vs.weaks; done = contains nat_eq vs.done }

-- the variables of a text so far were met, and have their names by their order
pub record AreNamed (nodes : List Node) (weak all : List ℕ) (m : Met) : Type 0 where
  pub marked : (v : ℕ) → m.weak v ≡ is_among v weak
  pub letters : m.letters ≡ count_in (has_letter weak) [] all
  pub weaks : m.weaks ≡ count_in (is_weak weak) [] all
  pub named : (v : ℕ) → is_among v all ≡ true → m.name v ≡ Some (name_given weak all v)
  pub met : (v : ℕ) → is_among v all ≡ true → m.done v ≡ true
  pub done : (n : ℕ) → m.done n ≡ true → AreAmong all (variables_of (shown nodes n))

-- the name of the variable that is met next
abbrev pub next_name : Met → ℕ → VariableName
next_name m r = if m.weak r then name.Weak (m.weaks + 1) else name.Letter m.letters

-- a variable was given the next name of its kind
pub record Counts (r : ℕ) (old new : Met) (answer : VariableName) : Type 0 where
  pub weak : new.weak ≡ old.weak
  pub done : new.done ≡ old.done
  pub names : new.name ≡ old.name
  pub letters : new.letters ≡ (if old.weak r then old.letters else old.letters + 1)
  pub weaks : new.weaks ≡ (if old.weak r then old.weaks + 1 else old.weaks)
  pub given : answer ≡ next_name old r

-- a variable was met
pub record Adds (r : ℕ) (old new : Met) : Type 0 where
  pub weak : new.weak ≡ old.weak
  pub done : (q : ℕ) → new.done q ≡ cond (nat_eq r q) true (old.done q)
  pub name : (q : ℕ) → new.name q ≡ cond (nat_eq r q) (Some (next_name old r)) (old.name q)
  pub letters : new.letters ≡ (if old.weak r then old.letters else old.letters + 1)
  pub weaks : new.weaks ≡ (if old.weak r then old.weaks + 1 else old.weaks)

-- a root's variables were all met
pub record Marks (r : ℕ) (old new : Met) : Type 0 where
  pub weak : new.weak ≡ old.weak
  pub done : (q : ℕ) → new.done q ≡ cond (nat_eq r q) true (old.done q)
  pub name : new.name ≡ old.name
  pub letters : new.letters ≡ old.letters
  pub weaks : new.weaks ≡ old.weaks

-- a move of a walk: to a node, or back from a root
pub data Move : Type 0 where
  enters : ℕ → Move
  leaves : ℕ → Move

-- a step of the code as a move
abbrev pub move_of : Step → Move
move_of (step.Into n) = enters n.0
move_of (step.Behind n) = leaves n.0

-- the moves that are left, the next one first
abbrev pub moves_of : List Step → List Move
moves_of ss = reverse (map move_of ss)

-- the moves into these nodes, in order
abbrev pub entries : List ℕ → List Move
entries [] = []
entries (n ∷ ns) = enters n ∷ entries ns

-- a move to a node of the store, or back from a root
abbrev pub IsMove : List Node → Move → Type 0
IsMove nodes (enters n) = n < length nodes
IsMove nodes (leaves n) = Unit {0}

-- each is such a move
abbrev pub AreMoves : List Node → List Move → Type 0
AreMoves nodes [] = Unit {0}
AreMoves nodes (m ∷ ms) = IsMove nodes m × AreMoves nodes ms

-- what is left to do for a move
abbrev pub move_weight : List Node → Move → ℕ
move_weight nodes (enters n) = weight (shown nodes n)
move_weight nodes (leaves n) = 1

-- what is left to do for moves
abbrev pub moves_weight : List Node → List Move → ℕ
moves_weight nodes [] = 0
moves_weight nodes (m ∷ ms) = move_weight nodes m + moves_weight nodes ms

-- the variables that moves come to
abbrev pub to_come : List Node → List Move → List ℕ
to_come nodes [] = []
to_come nodes (enters n ∷ ms) = variables_of (shown nodes n) ++ to_come nodes ms
to_come nodes (leaves n ∷ ms) = to_come nodes ms

-- the way back from a root comes behind all its variables
abbrev pub Closes : List Node → List ℕ → List Move → Type 0
Closes nodes all [] = Unit {0}
Closes nodes all (enters n ∷ ms) = Closes nodes (all ++ variables_of (shown nodes n)) ms
Closes nodes all (leaves n ∷ ms) = AreAmong all (variables_of (shown nodes n)) × Closes nodes all ms

-- a node that is a variable, free, bound or rigid
abbrev pub is_variable : Node → Bool
is_variable (Var level scope) = true
is_variable Rigid = true
is_variable (Link m) = false
is_variable (Arrow a b) = false
is_variable (Tuple ms) = false
is_variable (Con path name ms) = false

-- a move is made: a node is skipped, is met as a variable, or is gone into; or all of a root was met
pub data Goes (nodes : List Node) (before after : List Move) (old new : Met) : Move → Type 0 where
  skips : {n : ℕ} → old.done (root nodes n) ≡ true → new ≡ old → after ≡ before → Goes nodes before after old new (enters n)
  meets : {n : ℕ} {c : Node} → reading nodes n ≡ Some c → is_variable c ≡ true → old.done (root nodes n) ≡ false → Adds (root nodes n) old new → after ≡ before → Goes nodes before after old new (enters n)
  opens : {n : ℕ} {c : Node} → reading nodes n ≡ Some c → is_variable c ≡ false → new ≡ old → after ≡ entries (parts c) ++ leaves (root nodes n) ∷ before → Goes nodes before after old new (enters n)
  closes : {n : ℕ} → Marks n old new → after ≡ before → Goes nodes before after old new (leaves n)
