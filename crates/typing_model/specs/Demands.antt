-- What a row of the grammar asks of types: equations that hold in any case, instances of schemes (Damas and Milner 1982), and demands, which may be kept or not.
use Rattle.std.specs.Prelude.{◌≡◌, ℕ, Bool, true, ◌&&◌, ◌==◌, List, [], ◌∷◌, Option, Some, None, if◌then◌else◌}
use Rattle.tree_model.specs.Trees.{Place}
use Rattle.type_model.specs.Types.{Path, Typ}
use Rattle.type_model.specs.Schemes.{Scheme, HasInstance}
use Rattle.type_model.specs.Limits.{IsInScope}
use Rattle.signature_model.specs.Declarations.{Name, Shape}
use Rattle.signature_model.specs.Changes.{change_scheme}
use Rattle.signature_model.specs.Matching.{filling, IsKnown, MeetsShape, Matches}
use Rattle.signature_model.specs.Signatures.{Signature, Template}
use Rattle.signature_model.specs.Entries.{Environment}

-- a demand by the number of the node that makes it and its own number in the row
pub record Site : Type 0 where
  pub node : ℕ
  pub number : ℕ

-- a site, by its node and its number
abbrev pub site : ℕ → ℕ → Site
site n k = record { node = n; number = k }

-- whether two sites are one
abbrev pub same_site : Site → Site → Bool
same_site s t = s.node == t.node && s.number == t.number

-- the kinds of names in messages
pub data Word : Type 0 where
  value_word : Word
  constructor_word : Word
  label_word : Word
  type_word : Word
  type_variable_word : Word
  module_word : Word
  module_type_word : Word

-- what is wrong where a demand on names isn't kept
pub data Complaint : Type 0 where
  -- Unbound W X
  unbound : Word → Name → Complaint
  -- X takes N arguments but M are given
  arity : Name → ℕ → ℕ → Complaint
  -- A label is wanted here
  no_label : Complaint
  -- The field X is not mutable
  not_mutable : Name → Complaint
  -- The field X is absent
  incomplete : Name → Complaint
  -- X is defined twice
  twice : Name → Complaint
  -- X is bound on one side only
  one_side : Name → Complaint
  -- This integer is too large
  too_large : Complaint
  -- The definition of X contains itself
  cyclic : Name → Complaint
  -- This definition differs from that of X
  differs : Name → Complaint
  -- This module is not a functor
  no_functor : Complaint
  -- The signature has no abstract type X with N parameters
  no_abstract_type : Name → ℕ → Complaint

-- a demand: that a found type is the wanted one, that a test on names holds, that two declarations over so many parameters tell the same, that a signature matches a template,
-- or that a body leaves no type open in its environment, which asks nothing of the types
pub data Demand : Type 0 where
  equal : Typ → Typ → Demand
  test : Complaint → Bool → Demand
  agrees : Complaint → ℕ → Shape → Shape → Demand
  matches : Signature → Template → Demand
  closes : Environment → Signature → Demand

-- what a row asks: that two types are one, that a type is an instance of a scheme, that its origins were made before a node, that no unknown type stands in it, or a demand, which stands at a place of the text.
-- Beside these it tells in which environment a node is treated, which asks nothing.
pub data Condition : Type 0 where
  same : Typ → Typ → Condition
  instance : Scheme → Typ → Condition
  made : ℕ → Typ → Condition
  known : Typ → Condition
  demand : Site → Place → Demand → Condition
  treated : ℕ → Environment → Condition

-- an instance of a scheme, for some choice of the unknown types in it
pub record IsUse (s : Scheme) (t : Typ) : Type 0 where
  pub fill : Path → Typ
  pub instance : HasInstance (change_scheme (filling fill) s) t

-- what it is for a demand to be met
abbrev pub IsMet : Demand → Type 0
IsMet (equal found wanted) = found ≡ wanted
IsMet (test c b) = b ≡ true
IsMet (agrees c n actual wanted) = MeetsShape n actual wanted
IsMet (matches A t) = Matches 0 A t.made t.signature
IsMet (closes env s) = Unit {0}

-- a condition holds under a set of kept demands: a demand that isn't kept asks nothing
abbrev pub Holds : (Site → Bool) → Condition → Type 0
Holds kept (same t u) = t ≡ u
Holds kept (instance s t) = IsUse s t
Holds kept (made n t) = IsInScope n t
Holds kept (known t) = IsKnown t
Holds kept (demand s at d) = kept s ≡ true → IsMet d
Holds kept (treated n env) = Unit {0}

-- all of some conditions hold
abbrev pub AllHold : (Site → Bool) → List Condition → Type 0
AllHold kept [] = Unit {0}
AllHold kept (c ∷ cs) = Holds kept c × AllHold kept cs

-- the sites of the demands among conditions, in order
abbrev pub sites_of : List Condition → List Site
sites_of [] = []
sites_of (same t u ∷ cs) = sites_of cs
sites_of (instance s t ∷ cs) = sites_of cs
sites_of (made n t ∷ cs) = sites_of cs
sites_of (known t ∷ cs) = sites_of cs
sites_of (demand s at d ∷ cs) = s ∷ sites_of cs
sites_of (treated n env ∷ cs) = sites_of cs

-- the demand of a site among conditions, with its place
abbrev pub demand_of : Site → List Condition → Option (Place × Demand)
demand_of x [] = None
demand_of x (same t u ∷ cs) = demand_of x cs
demand_of x (instance s t ∷ cs) = demand_of x cs
demand_of x (made n t ∷ cs) = demand_of x cs
demand_of x (known t ∷ cs) = demand_of x cs
demand_of x (demand s at d ∷ cs) = if same_site x s then Some (at, d) else demand_of x cs
demand_of x (treated n env ∷ cs) = demand_of x cs

-- the environment in which a node is treated
abbrev pub environment_of : ℕ → List Condition → Option Environment
environment_of x [] = None
environment_of x (same t u ∷ cs) = environment_of x cs
environment_of x (instance s t ∷ cs) = environment_of x cs
environment_of x (made n t ∷ cs) = environment_of x cs
environment_of x (known t ∷ cs) = environment_of x cs
environment_of x (demand s at d ∷ cs) = environment_of x cs
environment_of x (treated n env ∷ cs) = if x == n then Some env else environment_of x cs
