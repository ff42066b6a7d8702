-- What functions on declarations denote: the root of a constructor that is read denotes its type.
use Rattle.std.specs.Prelude.{◌≡◌, ℕ, true, List, [], ◌∷◌, Option}
use Rattle.tree_model.specs.Trees.{Tree}
use Rattle.type_model.specs.Types.{Typ}
use Rattle.signature_model.specs.Declarations.{Name}
use Rattle.typing_model.specs.Parts.{TypeExpression}
use Rattle.typing_model.specs.Declarations.{read_optional}
use Rattle.type_nodes.specs.Nodes.{IsSound}
use Rattle.type_nodes.specs.Readings.{Types}
use Rattle.env_table.specs.declared.entries.Entry.{Entry}
use Rattle.typing_state.specs.declared.parts.Parts.{Parts}
use Rattle.typing_conditions.specs.Carrying.{Asks}
use Rattle.typing_conditions.specs.Declared.{building}
use Rattle.typing_conditions.specs.Frames.{Frame}
use Rattle.typing_conditions.specs.Locals.{IsPlain, IsOwn, ClosesAll}
use Rattle.typing_steps.specs.States.{is_aloud, sight}
use Rattle.operand_laws.specs.Formed.{IsFormed}
use Rattle.typing_rows.specs.Settled.{Before, Around}
use Rattle.declared_rows.specs.Assignments.{Assignment, Denotes, AssignedTo}
use Rattle.declared_rows.specs.Contracts.{Inside, AreNoted}
use Rattle.decl_groups.specs.declared.groups.ConstructorPart.{ConstructorPart as CodePart}
use Rattle.decl_typing.specs.Settling.{OptionSettled, argument_of, constructor_as, HasOperand}

-- the conditions of an argument that may be left out are settled, and a node denotes the type of a constructor with it and this result
pub record OptionDenoted (B : Before) (asks : Asks) (o : Option TypeExpression) (F : Frame) (arity : ℕ) (a b : Parts) (A : Assignment) (result : Typ) (m : ℕ) : Type 0 where
  pub settled : OptionSettled B asks o (sight a) (sight b)
  pub numbers : List ℕ
  pub to : AssignedTo F arity numbers (sight a) (sight b) A m (building result settled.type)
  pub noted : AreNoted numbers b

-- Where faults are reported, a call's node m denotes the type of a constructor with such an argument, whatever stands before it and around it, where e denotes its result.
abbrev pub DenotesOption : (a b : Parts) → List Entry → List Name → (ps : List ℕ) → Asks → Option TypeExpression → (result : Typ) → (e m : ℕ) → Type 0
DenotesOption a b env names ps asks o result e m = is_aloud a.telling ≡ true → (B : Before) → Around env names B → (F : Frame) (arity : ℕ) (U : List ℕ) (A : Assignment) → Inside F arity U a A B.named env ps → AreNoted U a → Denotes A e result → OptionDenoted B asks o F arity a b A result m

-- the same of the argument of a constructor with this number
abbrev pub DenotesArgument : (a b : Parts) → List Entry → List Name → (ps : List ℕ) → (number : ℕ) → Tree → (result : Typ) → (e m : ℕ) → Type 0
DenotesArgument a b env names ps number t result e m = IsFormed number t → DenotesOption a b env names ps (λ c. read_optional c (argument_of a.item number t)) (argument_of a.item number t) result e m

-- the same of a constructor of the code, whose argument is well formed
abbrev pub DenotesConstructor : (a b : Parts) → List Entry → List Name → (ps : List ℕ) → CodePart → (result : Typ) → (e m : ℕ) → Type 0
DenotesConstructor a b env names ps p result e m = HasOperand p → DenotesOption a b env names ps (λ c. read_optional c (constructor_as a.item p).argument) (constructor_as a.item p).argument result e m

-- a state between items, one level further in
abbrev pub raised : Parts → Parts
raised a = record a { level = 1 }

-- The same of a call between items that closes the root: there is a state before it is closed, and the store after it is sound and has no unknown type as a constructor.
pub record OptionClosed (B : Before) (asks : Asks) (o : Option TypeExpression) (F : Frame) (arity : ℕ) (a b : Parts) (A : Assignment) (result : Typ) (r : ℕ) : Type 0 where
  pub settled : OptionSettled B asks o (sight a) (sight b)
  pub numbers : List ℕ
  pub before : Parts
  pub to : AssignedTo F arity numbers (sight (raised a)) (sight before) A r (building result settled.type)
  pub noted : AreNoted numbers b
  pub closes : (K : Types) → IsOwn before.store.nodes K → ClosesAll before.store.nodes b.store.nodes K (r ∷ []) 0
  pub sound : IsSound b.store.nodes
  pub plain : IsPlain b.store.nodes
  pub level : b.level ≡ a.level

-- Where faults are reported, a call between items closes a root that denotes the type of a constructor with such an argument.
abbrev pub ClosesOption : (a b : Parts) → List Entry → List Name → (ps : List ℕ) → Asks → Option TypeExpression → (result : Typ) → (e r : ℕ) → Type 0
ClosesOption a b env names ps asks o result e r =
    is_aloud a.telling ≡ true → a.level ≡ 0 → (B : Before) → Around env names B → (F : Frame) (arity : ℕ) (U : List ℕ) (A : Assignment) → Inside F arity U (raised a) A B.named env ps → AreNoted U a → Denotes A e result → OptionClosed B asks o F arity a b A result r

-- the same of the argument of a constructor with this number
abbrev pub ClosesArgument : (a b : Parts) → List Entry → List Name → (ps : List ℕ) → (number : ℕ) → Tree → (result : Typ) → (e r : ℕ) → Type 0
ClosesArgument a b env names ps number t result e r = IsFormed number t → ClosesOption a b env names ps (λ c. read_optional c (argument_of a.item number t)) (argument_of a.item number t) result e r
