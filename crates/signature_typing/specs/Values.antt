-- What a value of a signature settles and makes: the root of its type, with all variables bound.
use Rattle.std.specs.Prelude.{◌≡◌, ℕ, true, List, [], ◌∷◌, ◌++◌, length, Option, Some, None}
use Rattle.token_model.specs.Kinds.{Tok}
use Rattle.tree_model.specs.Trees.{Tree, yield_of}
use Rattle.signature_model.specs.Declarations.{Name, in_text}
use Rattle.typing_model.specs.Items.{variables_written}
use Rattle.typing_model.specs.Modules.{once_each}
use Rattle.typing_model.specs.Parts.{TypeExpression, place_of}
use Rattle.type_nodes.specs.Nodes.{IsSound}
use Rattle.type_nodes.specs.Readings.{Types}
use Rattle.env_table.specs.declared.entries.Entry.{Entry}
use Rattle.env_table.specs.declared.entries.Kind.TheVariants as kind
use Rattle.env_table.specs.declared.entries.What.TheVariants as what
use Rattle.type_terms.specs.declared.types.NodeRef.{NodeRef}
use Rattle.text_terms.specs.Bytes.{str_bytes}
use Rattle.row_parts.specs.Numbered.{filled_in, token_in}
use Rattle.typing_state.specs.declared.parts.Parts.{Parts}
use Rattle.typing_conditions.specs.Environments.{defined_at}
use Rattle.typing_conditions.specs.Frames.{Frame}
use Rattle.typing_conditions.specs.Locals.{IsPlain, IsOwn, ClosesAll}
use Rattle.typing_conditions.specs.Carrying.{Asks}
use Rattle.typing_steps.specs.States.{is_aloud, sight}
use Rattle.operand_laws.specs.Formed.{IsFormed}
use Rattle.operand_laws.specs.Operands.{type_of}
use Rattle.typing_rows.specs.Settled.{Before, Around, SettledTo}
use Rattle.declared_rows.specs.Assignments.{Assignment, AssignedTo}
use Rattle.declared_rows.specs.Contracts.{Inside, AreNoted, DenotedTo}
use Rattle.decl_typing.specs.Denoting.{raised}

-- names of type variables are found in tokens, each once, behind those that were found before
abbrev pub FindsMore : (old : List Name) → List Tok → (new : List Name) → Type 0
FindsMore old ts new = new ≡ old ++ once_each old (variables_written ts)

-- the type variables of a specification, which are the parameters of its type
abbrev pub variables_of : Tree → List Name
variables_of t = once_each [] (variables_written (yield_of t))

-- the type expression of a specification
abbrev pub type_specified : (i n : ℕ) → Tree → TypeExpression
type_specified i n t = type_of i (filled_in n t 3)

-- Where faults are reported, a call's node m denotes the type of a specification, whose variables are made as its parameters, whatever stands before it.
abbrev pub DenotesValue : (a b : Parts) → List Entry → (number : ℕ) → Tree → (m : ℕ) → Type 0
DenotesValue a b env number t m = IsFormed number t → is_aloud a.telling ≡ true → (B : Before) → Around env (variables_of t) B → (F : Frame) (U : List ℕ) (A : Assignment) → Inside F 0 U a A B.named env [] → AreNoted U a →
    DenotedTo B (λ c. (type_specified a.item number t).read c) F (length (variables_of t)) a b A (type_specified a.item number t).node m

-- From a state between items to another the conditions of a type expression are settled, and there is a state in which a node denotes its type, before the root is closed; the store after it is
-- sound and has no unknown type as a constructor.
pub record ValueClosed (B : Before) (asks : Asks) (F : Frame) (arity : ℕ) (a b : Parts) (A : Assignment) (n r : ℕ) : Type 0 where
  pub settled : SettledTo B asks (sight a) (sight b) n
  pub numbers : List ℕ
  pub before : Parts
  pub to : AssignedTo F arity numbers (sight (raised a)) (sight before) A r settled.type
  pub noted : AreNoted numbers b
  pub closes : (K : Types) → IsOwn before.store.nodes K → ClosesAll before.store.nodes b.store.nodes K (r ∷ []) 0
  pub sound : IsSound b.store.nodes
  pub plain : IsPlain b.store.nodes
  pub level : b.level ≡ a.level

-- Where faults are reported, a call between items closes a root that denotes the type of a specification, whose variables are its parameters, whatever stands before it.
abbrev pub ClosesValue : (a b : Parts) → List Entry → (number : ℕ) → Tree → (r : ℕ) → Type 0
ClosesValue a b env number t r = IsFormed number t → is_aloud a.telling ≡ true → a.level ≡ 0 → (B : Before) → Around env (variables_of t) B → (F : Frame) (U : List ℕ) (A : Assignment) → Inside F 0 U (raised a) A B.named env [] → AreNoted U a →
    ValueClosed B (λ c. (type_specified a.item number t).read c) F (length (variables_of t)) a b A (type_specified a.item number t).node r

-- an entry is a value whose name is written as this token, with this root
pub record IsValue (x : Entry) (t : Tok) (r : ℕ) : Type 0 where
  pub cell : NodeRef
  pub what : x.what ≡ what.Scheme cell
  pub root : cell.0 ≡ r
  pub name : str_bytes x.name ≡ t.name
  pub kind : x.kind ≡ kind.Value
  pub placed : defined_at x.place ≡ in_text (place_of t)

-- A value is specified: its root is closed, and it is in front of the names of before.
pub record SpecifiesOne (a b : Parts) (env after : List Entry) (number : ℕ) (t : Tree) (name : Tok) : Type 0 where
  pub root : ℕ
  pub closes : ClosesValue a b env number t root
  pub entry : Entry
  pub is : IsValue entry name root
  pub scope : after ≡ entry ∷ env

-- A specification without a name is read, and enters nothing.
pub record SpecifiesNone (a b : Parts) (env after : List Entry) (number : ℕ) (t : Tree) : Type 0 where
  pub root : ℕ
  pub closes : ClosesValue a b env number t root
  pub scope : after ≡ env

-- what a specification enters, by its name
abbrev pub SpecifiesNamed : Option Tok → (a b : Parts) → (env after : List Entry) → (number : ℕ) → Tree → Type 0
SpecifiesNamed None a b env after number t = SpecifiesNone a b env after number t
SpecifiesNamed (Some name) a b env after number t = SpecifiesOne a b env after number t name

-- what a call makes of a specification
abbrev pub SpecifiesValue : (a b : Parts) → (env after : List Entry) → (number : ℕ) → Tree → Type 0
SpecifiesValue a b env after number t = SpecifiesNamed (token_in t 1) a b env after number t
