-- What functions on declarations settle of what the definitions ask.
use Rattle.std.specs.Prelude.{◌≡◌, ℕ, true, List, [], ◌++◌, All, map, Option, Some, None, option_map}
use Rattle.syntax_tree.specs.View.{tok_of}
use Rattle.tree_model.specs.Rows.{con_row}
use Rattle.tree_model.specs.Trees.{Tree, Part, taken, inner, missing}
use Rattle.row_parts.specs.declared.slots.Operand.{Operand}
use Rattle.row_parts.specs.Numbered.{Numbered, first_in, operand_view}
use Rattle.type_model.specs.Types.{Typ}
use Rattle.signature_model.specs.Declarations.{Name}
use Rattle.signature_model.specs.Records.{is_some}
use Rattle.typing_model.specs.Contexts.{Choice}
use Rattle.typing_model.specs.Demands.{Condition}
use Rattle.typing_model.specs.Parts.{TypeExpression, ConstructorPart, constructors}
use Rattle.typing_model.specs.Declarations.{read_optional, constructors_read, constructors_new, shape_asks, exception_asks, constructor_row}
use Rattle.env_table.specs.declared.entries.Entry.{Entry}
use Rattle.typing_state.specs.declared.parts.Parts.{Parts}
use Rattle.typing_conditions.specs.Sights.{Report, Sight}
use Rattle.typing_conditions.specs.Judging.{Judgement}
use Rattle.typing_conditions.specs.Carrying.{Asks}
use Rattle.typing_steps.specs.States.{is_aloud, sight}
use Rattle.operand_laws.specs.Formed.{row_of, IsFormed}
use Rattle.operand_laws.specs.Operands.{number_of, parts_of, type_of}
use Rattle.typing_rows.specs.Operands.{IsTypeOperand}
use Rattle.decl_groups.specs.declared.groups.ConstructorPart.{ConstructorPart as CodePart}
use Rattle.typing_rows.specs.Settled.{Fixes, AreFixed, Before, Around, Settled}

-- from one state to another conditions are settled and reported; a type expression that may be left out has one type, where it is there
pub record OptionSettled (B : Before) (asks : Asks) (o : Option TypeExpression) (a b : Sight) : Type 0 where
  pub judged : List Judgement
  pub told : List Report
  pub fixes : Fixes
  pub type : Option Typ
  pub given : is_some type ≡ is_some o
  pub reports : b.reports ≡ a.reports ++ told
  pub settled : Settled B asks judged told fixes
  pub gives : (ch : Choice) → AreFixed fixes ch → option_map (λ (t : TypeExpression). ch.type_at t.node) o ≡ type

-- Where faults are reported, a call settles these conditions with such a type expression, behind whatever stands before it.
abbrev pub SettlesOption : (a b : Parts) → List Entry → List Name → Asks → Option TypeExpression → Type 0
SettlesOption a b env names asks o = is_aloud a.telling ≡ true → (B : Before) → Around env names B → OptionSettled B asks o (sight a) (sight b)

-- the argument of a constructor with this number in an item
abbrev pub argument_of : (i n : ℕ) → Tree → Option TypeExpression
argument_of i n t = option_map (type_of i) (first_in n t 2)

-- what a call settles of an argument
abbrev pub SettlesArgument : (a b : Parts) → List Entry → List Name → (number : ℕ) → Tree → Type 0
SettlesArgument a b env names number t = IsFormed number t → SettlesOption a b env names (λ c. read_optional c (argument_of a.item number t)) (argument_of a.item number t)

-- what a call settles of an exception, which has no parameters
abbrev pub SettlesException : (a b : Parts) → List Entry → ConstructorPart → Type 0
SettlesException a b env k = SettlesOption a b env [] (λ c. exception_asks c k) k.argument

-- the same of the node of a constructor
abbrev pub SettlesConstructor : (a b : Parts) → List Entry → (number : ℕ) → Tree → Type 0
SettlesConstructor a b env number t = IsFormed number t → row_of t ≡ con_row → SettlesException a b env (constructor_row (number_of a.item number) (parts_of a.item number t))

-- the same of what stands behind `exception`, where nothing is reported if it is missing
abbrev pub SettlesPart : (a b : Parts) → List Entry → (number : ℕ) → Part → Type 0
SettlesPart a b env number (taken t) = Unit {0}
SettlesPart a b env number (inner t) = SettlesConstructor a b env number t
SettlesPart a b env number (missing q) = (sight b).reports ≡ (sight a).reports

-- the same where it may be left out
abbrev pub SettlesPartIf : (a b : Parts) → List Entry → Option Numbered → Type 0
SettlesPartIf a b env None = (sight b).reports ≡ (sight a).reports
SettlesPartIf a b env (Some o) = SettlesPart a b env o.number o.part

-- a constructor of the code in an item, as the definitions take it
abbrev pub constructor_as : ℕ → CodePart → ConstructorPart
constructor_as i p = record { node = number_of i p.number; name = option_map (λ t. tok_of t.now) p.name; argument = option_map (type_of i) (option_map operand_view p.argument) }

-- constructors of the code
abbrev pub constructors_as : ℕ → List CodePart → List ConstructorPart
constructors_as i ps = map (constructor_as i) ps

-- an operand of the code is one whose tree is well formed, where it is there
abbrev pub IsOperandIf : Option Operand → Type 0
IsOperandIf None = Unit {0}
IsOperandIf (Some o) = IsTypeOperand (operand_view o)

-- the same of a constructor's argument
abbrev pub HasOperand : CodePart → Type 0
HasOperand p = IsOperandIf p.argument

-- the type of a constructor's argument, by what is chosen
abbrev pub argument_at : Choice → ConstructorPart → Option Typ
argument_at ch k = option_map (λ (t : TypeExpression). ch.type_at t.node) k.argument

-- the arguments of the first constructors are settled, and some are left
pub record FirstConstructors (B : Before) (all left : List ConstructorPart) (a b : Sight) : Type 0 where
  pub done : List ConstructorPart
  pub judged : List Judgement
  pub told : List Report
  pub fixes : Fixes
  pub types : List (Option Typ)
  pub reports : b.reports ≡ a.reports ++ told
  pub settled : Settled B (λ c. constructors_read c done) judged told fixes
  pub gives : (ch : Choice) → AreFixed fixes ch → map (argument_at ch) done ≡ types
  pub split : all ≡ done ++ left

-- that the names of the first constructors are new is judged, and some are left
pub record FirstNames (B : Before) (all left : List ConstructorPart) (seen : List Name) (a b : Sight) : Type 0 where
  pub done : List Condition
  pub judged : List Judgement
  pub told : List Report
  pub reports : b.reports ≡ a.reports ++ told
  pub settled : Settled B (λ c. done) judged told []
  pub split : constructors_new [] all ≡ done ++ constructors_new seen left

-- the names of constructors are new, or that is reported
pub record NamesSettled (B : Before) (ks : List ConstructorPart) (a b : Sight) : Type 0 where
  pub judged : List Judgement
  pub told : List Report
  pub reports : b.reports ≡ a.reports ++ told
  pub settled : Settled B (λ c. constructors_new [] ks) judged told []

-- what is asked of constructors is settled: the types of their arguments, and then that their names are new; each argument has one type
pub record ConstructorsSettled (B : Before) (ks : List ConstructorPart) (a b : Sight) : Type 0 where
  pub judged : List Judgement
  pub told : List Report
  pub fixes : Fixes
  pub types : List (Option Typ)
  pub reports : b.reports ≡ a.reports ++ told
  pub settled : Settled B (λ c. shape_asks c (Some (constructors ks))) judged told fixes
  pub gives : (ch : Choice) → AreFixed fixes ch → map (argument_at ch) ks ≡ types

-- where faults are reported, a call judges the names of constructors
abbrev pub SettlesNames : (a b : Parts) → List ConstructorPart → Type 0
SettlesNames a b ks = is_aloud a.telling ≡ true → (B : Before) → NamesSettled B ks (sight a) (sight b)

-- and settles all that is asked of constructors
abbrev pub SettlesConstructors : (a b : Parts) → List Entry → List Name → List CodePart → Type 0
SettlesConstructors a b env names ps = All HasOperand ps → is_aloud a.telling ≡ true → (B : Before) → Around env names B → ConstructorsSettled B (constructors_as a.item ps) (sight a) (sight b)
