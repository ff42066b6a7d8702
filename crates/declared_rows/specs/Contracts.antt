-- What functions that read type expressions of a declaration denote: their nodes denote the types that are settled.
use Rattle.std.specs.Prelude.{◌≡◌, ℕ, true, List, ◌∷◌, ◌++◌, length, slice_get, Option, Some, None}
use Rattle.token_model.specs.Kinds.{Tok}
use Rattle.type_model.specs.Types.{Typ}
use Rattle.type_model.specs.Types.{Typ as type}
use Rattle.type_model.specs.Schemes.{Scheme}
use Rattle.signature_model.specs.Declarations as rules
use Rattle.signature_model.specs.Declarations.{Name, type_of}
use Rattle.signature_model.specs.Entries.{Environment}
use Rattle.typing_model.specs.Contexts.{Context}
use Rattle.typing_model.specs.Parts.{TypeExpression}
use Rattle.typing_model.specs.TypeExpressions.{read_all, nodes_of}
use Rattle.type_nodes.specs.Nodes.{Node}
use Rattle.type_nodes.specs.Readings.{Types}
use Rattle.env_table.specs.declared.entries.Constructor.{Constructor}
use Rattle.env_table.specs.declared.entries.Declaration.{Declaration}
use Rattle.env_table.specs.declared.entries.Entry.{Entry}
use Rattle.typing_state.specs.declared.parts.Parts.{Parts}
use Rattle.typing_state.specs.Goes.{OnlyStore}
use Rattle.typing_state.specs.Types.{MakesVar}
use Rattle.typing_conditions.specs.Standing.{IsIn}
use Rattle.typing_conditions.specs.Environments.{EnvAs}
use Rattle.typing_conditions.specs.Declared.{DeclaredAs}
use Rattle.typing_conditions.specs.Frames.{Frame}
use Rattle.typing_conditions.specs.Carrying.{Asks}
use Rattle.typing_steps.specs.States.{is_aloud, sight}
use Rattle.typing_rows.specs.Declaring.{declared_in}
use Rattle.typing_rows.specs.Settled.{Before, Around, GivesAll, SettledTo, AllSettled}
use Rattle.typing_rows.specs.DeclaredContracts.{declared_by}
pub use Rattle.typing_rows.specs.Noted.{AreNoted}
use Rattle.declared_rows.specs.Assignments.{Assignment, Assigns, Denotes, AllDenote, AssignedTo, AllAssigned}

-- a declaration of the code stands for one of the definitions that has the type by which the code's is known
abbrev pub KnownAs : List Node → List ℕ → Types → (Declaration → Typ) → Declaration → rules.Declaration → Type 0
KnownAs nodes C N named d e = DeclaredAs nodes C N d e × (type_of e ≡ named d)

-- So it is with each type that the names of the code find, at the frame's start and among its roots.
pub record KnowsTypes (F : Frame) (named : Declaration → Typ) (env : List Entry) : Type 0 where
  pub names : Types
  pub environment : Environment
  pub entries : EnvAs (λ (r : ℕ) (sc : Scheme). Unit {0}) (KnownAs F.start F.roots names named) (λ (x : Constructor) (o : Option Typ). Unit {0}) env environment

-- one declaration is known so, by a type
pub record IsKnownBy (F : Frame) (d : Declaration) (u : Typ) : Type 0 where
  pub names : Types
  pub rule : rules.Declaration
  pub alike : DeclaredAs F.start F.roots names d rule
  pub is : type_of rule ≡ u

-- these nodes denote the parameters, by their numbers
abbrev pub AreParameters : Assignment → List ℕ → Type 0
AreParameters A ps = (k p : ℕ) → slice_get ps k ≡ Some p → Denotes A p (type.Var k)

-- what stands around a type expression of a declaration: an assignment, names of types, and the nodes of the parameters
pub record Inside (F : Frame) (arity : ℕ) (U : List ℕ) (a : Parts) (A : Assignment) (named : Declaration → Typ) (env : List Entry) (ps : List ℕ) : Type 0 where
  pub assigns : Assigns F arity U (sight a) A
  pub types : KnowsTypes F named env
  pub parameters : AreParameters A ps

-- the conditions of a type expression are settled, and its node denotes its type
pub record DenotedTo (B : Before) (asks : Asks) (F : Frame) (arity : ℕ) (a b : Parts) (A : Assignment) (n m : ℕ) : Type 0 where
  pub settled : SettledTo B asks (sight a) (sight b) n
  pub numbers : List ℕ
  pub to : AssignedTo F arity numbers (sight a) (sight b) A m settled.type
  pub noted : AreNoted numbers b

-- the same of several type expressions
pub record AllDenoted (B : Before) (asks : Asks) (F : Frame) (arity : ℕ) (a b : Parts) (A : Assignment) (ns ms : List ℕ) : Type 0 where
  pub settled : AllSettled B asks (sight a) (sight b) ns ms
  pub numbers : List ℕ
  pub all : AllAssigned F arity numbers (sight a) (sight b) A ms settled.types
  pub noted : AreNoted numbers b

-- the same before the node n is recorded: it may have an unknown type, where it isn't one of those before it
pub record RowDenoted (B : Before) (asks : Asks) (F : Frame) (arity : ℕ) (a b : Parts) (A : Assignment) (n m : ℕ) : Type 0 where
  pub settled : SettledTo B asks (sight a) (sight b) n
  pub numbers : List ℕ
  pub to : (IsIn numbers n → ⊥) → AssignedTo F arity (n ∷ numbers) (sight a) (sight b) A m settled.type
  pub noted : AreNoted numbers b

-- the same of the end of a node
pub record EndDenoted (B : Before) (asks : Asks) (F : Frame) (arity : ℕ) (U : List ℕ) (a b : Parts) (A : Assignment) (n m : ℕ) : Type 0 where
  pub settled : SettledTo B asks (sight a) (sight b) n
  pub to : (IsIn U n → ⊥) → AssignedTo F arity (n ∷ U) (sight a) (sight b) A m settled.type

-- the first ones denote their types, and some are left
pub record FirstDenoted (B : Before) (F : Frame) (arity : ℕ) (a b : Parts) (A : Assignment) (all left : List TypeExpression) (ms : List ℕ) : Type 0 where
  pub done : Asks
  pub nodes : List ℕ
  pub read : AllDenoted B done F arity a b A nodes ms
  pub asks : (c : Context) → read_all c all ≡ done c ++ read_all c left
  pub gives : nodes_of all ≡ nodes ++ nodes_of left

-- Where faults are reported, a call's node m denotes the type that is settled for a type expression with the node n, whatever stands before it and around it.
abbrev pub DenotesTo : (a b : Parts) → List Entry → List Name → (ps : List ℕ) → Asks → (n m : ℕ) → Type 0
DenotesTo a b env names ps asks n m = is_aloud a.telling ≡ true → (B : Before) → Around env names B → (F : Frame) (arity : ℕ) (U : List ℕ) (A : Assignment) → Inside F arity U a A B.named env ps → AreNoted U a → DenotedTo B asks F arity a b A n m

-- the same of several type expressions
abbrev pub DenotesAll : (a b : Parts) → List Entry → List Name → (ps : List ℕ) → Asks → (ns ms : List ℕ) → Type 0
DenotesAll a b env names ps asks ns ms = is_aloud a.telling ≡ true → (B : Before) → Around env names B → (F : Frame) (arity : ℕ) (U : List ℕ) (A : Assignment) → Inside F arity U a A B.named env ps → AreNoted U a → AllDenoted B asks F arity a b A ns ms

-- the same in a loop
abbrev pub DenotesFirst : (a b : Parts) → List Entry → List Name → (ps : List ℕ) → (all left : List TypeExpression) → List ℕ → Type 0
DenotesFirst a b env names ps all left ms = is_aloud a.telling ≡ true → (B : Before) → Around env names B → (F : Frame) (arity : ℕ) (U : List ℕ) (A : Assignment) → Inside F arity U a A B.named env ps → AreNoted U a → FirstDenoted B F arity a b A all left ms

-- the same before the node is recorded
abbrev pub DenotesRow : (a b : Parts) → List Entry → List Name → (ps : List ℕ) → Asks → (n m : ℕ) → Type 0
DenotesRow a b env names ps asks n m = is_aloud a.telling ≡ true → (B : Before) → Around env names B → (F : Frame) (arity : ℕ) (U : List ℕ) (A : Assignment) → Inside F arity U a A B.named env ps → AreNoted U a → RowDenoted B asks F arity a b A n m

-- the end of a type expression with the node n, once the nodes ms denote the types of its parts ns
abbrev pub DenotesEnd : (a b : Parts) → List Entry → List Name → (ps : List ℕ) → Asks → (ns ms : List ℕ) → (n m : ℕ) → Type 0
DenotesEnd a b env names ps asks ns ms n m = is_aloud a.telling ≡ true → (B : Before) → Around env names B → (types : List Typ) → GivesAll B.fixes ns types → length ns ≡ length ms →
    (F : Frame) (arity : ℕ) (U : List ℕ) (A : Assignment) → Inside F arity U a A B.named env ps → AllDenote A ms types → EndDenoted B asks F arity U a b A n m

-- an unknown type is made
abbrev pub MakesUnknown : (a b : Parts) → ℕ → Type 0
MakesUnknown a b m = MakesVar a b m 0 × OnlyStore a b

-- Where faults are reported, a call's node m denotes what is settled of the name t of a type that has this declaration, over arguments; where it has none it is an unknown type.
abbrev pub DenotesDeclared : Option Declaration → (a b : Parts) → List Name → Tok → List ℕ → ℕ → Type 0
DenotesDeclared None a b names t ms m = MakesUnknown a b m
DenotesDeclared (Some d) a b names t ms m = is_aloud a.telling ≡ true → (B : Before) (n : ℕ) (ns : List ℕ) (types : List Typ) (u : Typ) → B.names ≡ names → GivesAll B.fixes ns types → length ns ≡ length ms →
    (F : Frame) (arity : ℕ) (U : List ℕ) (A : Assignment) → Assigns F arity U (sight a) A → IsKnownBy F d u → AllDenote A ms types → EndDenoted B (λ c. declared_by c n t ns d.arity u) F arity U a b A n m

-- the same of what is found
abbrev pub DenotesNamed : Option Entry → (a b : Parts) → List Name → Tok → List ℕ → ℕ → Type 0
DenotesNamed None a b names t ms m = MakesUnknown a b m
DenotesNamed (Some x) a b names t ms m = DenotesDeclared (declared_in x.what) a b names t ms m
