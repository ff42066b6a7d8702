-- The names in scope that are recorded for the nodes of type expressions.
use Rattle.std.specs.Prelude.{◌≡◌, ℕ, Bool, true, false, List, ◌++◌, All, Some}
use Rattle.tree_model.specs.Trees.{Place, Tree, Part}
use Rattle.signature_model.specs.Entries.{Environment}
use Rattle.row_parts.specs.Numbered.{Numbered}
use Rattle.typing_model.specs.Contexts.{Context}
use Rattle.typing_model.specs.Parts.{TypeExpression}
use Rattle.typing_model.specs.TypeExpressions.{read_all}
use Rattle.env_table.specs.declared.entries.Entry.{Entry}
use Rattle.typing_state.specs.declared.parts.Parts.{Parts}
use Rattle.typing_conditions.specs.Sights.{Sight, number_in}
use Rattle.typing_conditions.specs.Judging.{AllSeen, starts_known}
use Rattle.typing_conditions.specs.Carrying.{Asks}
use Rattle.typing_steps.specs.States.{is_aloud, sight}
use Rattle.operand_laws.specs.Formed.{row_of, IsFormed, IsPartFormed}
use Rattle.operand_laws.specs.Operands.{type_of}
use Rattle.typing_rows.specs.Rows.{types_read, front_asks}
use Rattle.typing_rows.specs.Operands.{IsTypeOperand, part_asks}

-- For a node without a type the names `env` in scope are recorded, where it is treated among those of the environment E.
pub record IsScoped (b : Sight) (env : List Entry) (E : Environment) (n : ℕ) (F : Environment) (is_typed : Bool) : Type 0 where
  pub item : ℕ
  pub place : ℕ
  pub number : n ≡ number_in item place
  pub at : b.scopes item place ≡ Some env
  pub same : F ≡ E
  pub untyped : is_typed ≡ false

-- For each node that is treated in conditions these names in scope are recorded, whatever the context, and no type is told. They don't start with that a type is known.
pub record Treats (b : Sight) (env : List Entry) (asks : Asks) : Type 0 where
  pub sees : (c : Context) → AllSeen (IsScoped b env c.env) (asks c)
  pub starts : (c : Context) → starts_known (asks c) ≡ false

-- where faults are reported, a call records them
abbrev pub TreatsTo : (a b : Parts) → List Entry → Asks → Type 0
TreatsTo a b env asks = is_aloud a.telling ≡ true → Treats (sight b) env asks

-- the same for an operand that is a type expression
abbrev pub TreatsOperand : (a b : Parts) → List Entry → Numbered → Type 0
TreatsOperand a b env o = IsTypeOperand o → TreatsTo a b env (λ c. (type_of a.item o).read c)

-- the same for a part, up to the record of its own node
abbrev pub TreatsPart : (a b : Parts) → List Entry → (number : ℕ) → Place → Part → Type 0
TreatsPart a b env number at p = IsPartFormed number p → TreatsTo a b env (λ c. part_asks a.item number at p c)

-- the same for operands in order
abbrev pub TreatsOperands : (a b : Parts) → List Entry → List Numbered → Type 0
TreatsOperands a b env os = All IsTypeOperand os → TreatsTo a b env (λ c. read_all c (types_read a.item os))

-- the same for what is before a constructor
abbrev pub TreatsGiven : (a b : Parts) → List Entry → Numbered → Type 0
TreatsGiven a b env o = IsTypeOperand o → TreatsTo a b env (λ c. (type_of a.item o).grouped_read c)

-- the same for the parts of a node
abbrev pub TreatsFront : (a b : Parts) → List Entry → (number : ℕ) → Tree → Type 0
TreatsFront a b env number t = IsFormed number t → TreatsTo a b env (λ c. front_asks (row_of t) a.item number t c)

-- they are recorded for the first of some type expressions, and some are left
pub record FirstTreated (b : Sight) (env : List Entry) (all left : List TypeExpression) : Type 0 where
  pub done : Asks
  pub treats : Treats b env done
  pub asks : (c : Context) → read_all c all ≡ done c ++ read_all c left

-- the same in a loop
abbrev pub TreatsFirst : (a b : Parts) → List Entry → (all left : List TypeExpression) → Type 0
TreatsFirst a b env all left = is_aloud a.telling ≡ true → FirstTreated (sight b) env all left
