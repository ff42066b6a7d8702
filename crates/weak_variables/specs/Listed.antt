-- What is known of the variables that a search has listed.
use Rattle.std.specs.Prelude.{◌≡◌, ◌⊎◌, ◌<◌, ◌++◌, ℕ, Bool, true, List, length}
use Rattle.type_nodes.specs.Nodes.{Node}
use Rattle.env_table.specs.declared.entries.Entry.{Entry}
use Rattle.typing_conditions.specs.Standing.{IsIn}
use Rattle.weak_variables.specs.Free.{IsFreeIn, IsRoot, AreAllValues, IsFound, SameFree}

-- A search goes on: `before` and `after` are the variables that are listed then, `olds` and `news` those that were found. What is listed stays so, and what is listed newly was found.
pub record Lists (before after : ℕ → Bool) (olds news : List ℕ) : Type 0 where
  pub keeps : (v : ℕ) → before v ≡ true → after v ≡ true
  pub only : (v : ℕ) → after v ≡ true → (before v ≡ true) ⊎ IsIn news v
  pub goes : (v : ℕ) → IsIn olds v → IsIn news v

-- the same of a search for these: each is listed then, and what was found newly is one of them
pub record Adds (P : ℕ → Type 0) (before after : ℕ → Bool) (olds news : List ℕ) : Type 0 where
  pub lists : Lists before after olds news
  pub all : (v : ℕ) → P v → after v ≡ true
  pub found : (v : ℕ) → IsIn news v → IsIn olds v ⊎ P v

-- a variable that is free in the type of one of these nodes
abbrev pub IsFreeInOne : List Node → (ℕ → Type 0) → ℕ → Type 0
IsFreeInOne nodes R v = (n : ℕ) × R n × IsFreeIn nodes n v

-- a search for all that is free in the types of these nodes
abbrev pub Finds : List Node → (R : ℕ → Type 0) → (before after : ℕ → Bool) → (olds news : List ℕ) → Type 0
Finds nodes R = Adds (IsFreeInOne nodes R)

-- what is listed is in one of these lists
abbrev pub AreListedIn : (ℕ → Bool) → List (List ℕ) → Type 0
AreListedIn listed free = (v : ℕ) → listed v ≡ true → IsFound free v

-- The names after items are new ones in front of those before. Where these are values, the variables that are free in their types are those that are free in the types of what was found.
pub record IsListed (nodes : List Node) (env now : List Entry) (free : List (List ℕ)) : Type 0 where
  pub names : List Entry
  pub scope : now ≡ names ++ env
  pub inside : (n : ℕ) → IsRoot names n → n < length nodes
  pub found : AreAllValues names → (v : ℕ) → IsFound free v → v < length nodes
  pub same : AreAllValues names → SameFree nodes (IsRoot names) (IsFound free)
