-- What a part of a program is typed in: the names in scope (Damas and Milner 1982, for assumptions), the kept demands, and the types that a typing chooses.
use Rattle.std.specs.Prelude.{ℕ, Bool, not, ◌||◌, false, List, [], ◌∷◌, ◌++◌}
use Rattle.type_model.specs.Types.{Path, Typ, Con, Nil, occurs}
use Rattle.type_model.specs.Schemes.{Scheme}
use Rattle.tree_model.specs.Trees.{Place}
use Rattle.signature_model.specs.Declarations as declarations
use Rattle.signature_model.specs.Declarations.{Name, unknown}
use Rattle.signature_model.specs.Entries.{Environment, entry, a_value, free_in}
use Rattle.typing_model.specs.Demands.{Site, site, Condition, Demand, demand, same, known, treated}

-- what a typing chooses: a type for each node, the types that nothing else restricts of each row, the types of the type variables written in each item, and for each node the types that its unknown ones stand for
pub record Choice : Type 0 where
  pub type_at : ℕ → Typ
  pub letter : ℕ → ℕ → Typ
  pub written : ℕ → Name → Typ
  pub filled : ℕ → Path → Typ

-- what a type variable stands for: in an expression a type of the item round it, in a declaration a parameter
pub data Variables : Type 0 where
  in_item : ℕ → Variables
  parameters : List Name → Variables

-- the context of a part
pub record Context : Type 0 where
  pub env : Environment
  pub variables : Variables
  -- the names of the type variables that are written in the item round it, where they are held
  pub held : List Name
  pub kept : Site → Bool
  pub chosen : Choice

-- a context with other names in scope
abbrev pub under : Environment → Context → Context
under env c = record c { env = env }

-- the type of a node
abbrev pub type_at : Context → ℕ → Typ
type_at c n = c.chosen.type_at n

-- a letter of a row: a type that nothing else restricts
abbrev pub letter : Context → ℕ → ℕ → Typ
letter c n k = c.chosen.letter n k

-- whether the demand of a number in the row of a node is kept
abbrev pub is_kept : Context → ℕ → ℕ → Bool
is_kept c n k = c.kept (site n k)

-- the demand of a number in the row of a node, at a place
abbrev pub ask : ℕ → ℕ → Place → Demand → List Condition
ask n k at d = demand (site n k) at d ∷ []

-- a node is treated in this context
abbrev pub tell : ℕ → Context → List Condition
tell n c = treated n c.env ∷ []

-- a node of an expression or a pattern is treated in this context; no unknown type stands in its type
abbrev pub tell_typed : ℕ → Context → List Condition
tell_typed n c = treated n c.env ∷ known (type_at c n) ∷ []

-- a name that a pattern binds: where, and the type that a context gives it
pub record Bound : Type 0 where
  pub name : Name
  pub place : Place
  pub has_type : Context → Typ

-- a scheme that binds nothing
abbrev pub monomorphic : Typ → Scheme
monomorphic t = record { body = t; bound = λ v. false }

-- names as entries with these schemes, the newest first
abbrev pub entries_with : (Typ → Scheme) → Context → List Bound → Environment → Environment
entries_with scheme c [] env = env
entries_with scheme c (b ∷ bs) env = entries_with scheme c bs (entry b.name (declarations.in_text b.place) (a_value (scheme (b.has_type c))) ∷ env)

-- the names of patterns in scope, with one type each
abbrev pub with_names : Context → List Bound → Context
with_names c bs = under (entries_with monomorphic c bs c.env) c

-- whether a variable stands in one of these types
abbrev pub occurs_in : ℕ → List Typ → Bool
occurs_in v [] = false
occurs_in v (t ∷ ts) = occurs v t || occurs_in v ts

-- a type with all variables bound but those that are free in the environment or stand in a held type (Damas and Milner 1982; Garrigue 2004 for what is held)
abbrev pub generalised_in : Environment → List Typ → Typ → Scheme
generalised_in env held t = record { body = t; bound = λ v. not (free_in v env || occurs_in v held) }

-- a type expression that names no type: any type in an item, and in a declaration an unknown one
abbrev pub unresolved_in : Context → ℕ → Variables → List Condition
unresolved_in c n (in_item i) = []
unresolved_in c n (parameters ps) = same (type_at c n) (unknown (n ∷ [])) ∷ []

-- the same by the context of the type expression
abbrev pub unresolved : Context → ℕ → List Condition
unresolved c n = unresolved_in c n c.variables

-- what the unknown types are in a use at a node: in an item any types, in a declaration unknown types of the node's own
abbrev pub filled_in : Context → ℕ → Variables → Path → Typ
filled_in c n (in_item i) o = c.chosen.filled n o
filled_in c n (parameters ps) o = Con (o ++ n ∷ []) Nil

-- the same by the context of the use
abbrev pub filled_at : Context → ℕ → Path → Typ
filled_at c n = filled_in c n c.variables
