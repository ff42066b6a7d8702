-- What is made of a constructor that is read: its name, its root, and whether it takes an argument.
use Rattle.std.specs.Prelude.{◌≡◌, ℕ, true, List, [], ◌∷◌, ◌++◌, All, Option, Some, None, option_map}
use Rattle.text_terms.specs.Bytes.{str_bytes}
use Rattle.type_model.specs.Types.{Typ}
use Rattle.signature_model.specs.Declarations.{Name}
use Rattle.signature_model.specs.Records.{is_some}
use Rattle.typing_model.specs.Contexts.{tell}
use Rattle.typing_model.specs.Parts.{ConstructorPart}
use Rattle.typing_model.specs.Declarations.{read_optional}
use Rattle.env_table.specs.declared.entries.Constructor.{Constructor}
use Rattle.env_table.specs.declared.entries.Entry.{Entry}
use Rattle.env_table.specs.declared.entries.Shape.{Shape}
use Rattle.env_table.specs.declared.entries.Shape.TheVariants as shape
use Rattle.typing_state.specs.declared.parts.Parts.{Parts}
use Rattle.typing_conditions.specs.Declared.{building}
use Rattle.typing_conditions.specs.Frames.{Frame}
use Rattle.typing_steps.specs.States.{is_aloud, sight}
use Rattle.typing_rows.specs.Settled.{Before, Around}
use Rattle.declared_rows.specs.Assignments.{Assignment, Assigned, Denotes}
use Rattle.declared_rows.specs.Contracts.{Inside, AreNoted}
use Rattle.decl_groups.specs.declared.groups.ConstructorPart.{ConstructorPart as CodePart}
use Rattle.decl_typing.specs.Settling.{constructor_as, constructors_as, HasOperand, FirstConstructors, ConstructorsSettled}
use Rattle.decl_typing.specs.Denoting.{DenotesOption}

-- a constructor is made of this part, with this root
pub record AsConstructor (p : CodePart) (r : ℕ) (k : Constructor) : Type 0 where
  pub named : option_map (λ t. str_bytes t.now.name) p.name ≡ Some (str_bytes k.name)
  pub root : k.root.0 ≡ r
  pub takes : k.has_argument ≡ is_some p.argument

-- none is made of one without a name
abbrev pub ConstructorIf : CodePart → ℕ → Option Constructor → Type 0
ConstructorIf p r None = p.name ≡ None
ConstructorIf p r (Some k) = AsConstructor p r k

-- A call reads a constructor: its root denotes its type, from the argument to the result, which e denotes.
pub record ReadsConstructor (a b : Parts) (env : List Entry) (names : List Name) (ps : List ℕ) (p : CodePart) (result : Typ) (e : ℕ) (k : Option Constructor) : Type 0 where
  pub root : ℕ
  pub read : HasOperand p → DenotesOption a b env names ps (λ c. tell (constructor_as a.item p).node c ++ read_optional c (constructor_as a.item p).argument) (constructor_as a.item p).argument result e root
  pub made : ConstructorIf p root k

-- Constructors are made of parts whose arguments have these types, by an assignment: one of each with a name, in order, whose root denotes its type.
pub data AreMade (A : Assignment) (result : Typ) : List CodePart → List (Option Typ) → List Constructor → Type 0 where
  none_made : AreMade A result [] [] []
  one_made : {p : CodePart} {ps : List CodePart} {t : Option Typ} {ts : List (Option Typ)} {k : Constructor} {ks : List Constructor} (r : ℕ) → AsConstructor p r k → is_some t ≡ is_some p.argument → Denotes A r (building result t) → AreMade A result ps ts ks → AreMade A result (p ∷ ps) (t ∷ ts) (k ∷ ks)
  nameless : {p : CodePart} {ps : List CodePart} {t : Option Typ} {ts : List (Option Typ)} {ks : List Constructor} → p.name ≡ None → AreMade A result ps ts ks → AreMade A result (p ∷ ps) (t ∷ ts) ks

-- the first constructors are read, and some are left
pub record FirstDenoted (B : Before) (F : Frame) (arity : ℕ) (a b : Parts) (A : Assignment) (result : Typ) (all left : List ConstructorPart) (ps : List CodePart) (ks : List Constructor) : Type 0 where
  pub settled : FirstConstructors B all left (sight a) (sight b)
  pub numbers : List ℕ
  pub on : Assigned F arity numbers (sight a) (sight b) A
  pub made : AreMade on.after result ps settled.types ks
  pub noted : AreNoted numbers b

-- the same of all constructors of a declaration, whose names are judged then
pub record AllDenoted (B : Before) (F : Frame) (arity : ℕ) (a b : Parts) (A : Assignment) (result : Typ) (all : List ConstructorPart) (ps : List CodePart) (ks : List Constructor) : Type 0 where
  pub settled : ConstructorsSettled B all (sight a) (sight b)
  pub numbers : List ℕ
  pub on : Assigned F arity numbers (sight a) (sight b) A
  pub made : AreMade on.after result ps settled.types ks
  pub noted : AreNoted numbers b

-- the constructors of a shape, of which there are some or nothing is told
abbrev pub shape_constructors : Shape → List Constructor
shape_constructors (shape.Variant ks) = ks.items
shape_constructors _ = []

-- Where faults are reported, a call reads the constructors of a declaration: their roots denote their types.
abbrev pub ReadsConstructors : (a b : Parts) → List Entry → List Name → (ps : List ℕ) → List CodePart → (result : Typ) → (e : ℕ) → List Constructor → Type 0
ReadsConstructors a b env names ps parts result e ks = All HasOperand parts → is_aloud a.telling ≡ true → (B : Before) → Around env names B → (F : Frame) (arity : ℕ) (U : List ℕ) (A : Assignment) → Inside F arity U a A B.named env ps → AreNoted U a → Denotes A e result →
    AllDenoted B F arity a b A result (constructors_as a.item parts) parts ks

-- the same in a loop
abbrev pub ReadsFirst : (a b : Parts) → List Entry → List Name → (ps : List ℕ) → (all left done : List CodePart) → (result : Typ) → (e : ℕ) → List Constructor → Type 0
ReadsFirst a b env names ps all left done result e ks = All HasOperand all → is_aloud a.telling ≡ true → (B : Before) → Around env names B → (F : Frame) (arity : ℕ) (U : List ℕ) (A : Assignment) → Inside F arity U a A B.named env ps → AreNoted U a → Denotes A e result →
    FirstDenoted B F arity a b A result (constructors_as a.item all) (constructors_as a.item left) done ks
