-- What the use of a constructor, and that of a label, carries.
use Rattle.std.specs.Prelude.{◌≡◌, ℕ, ◌==◌, Bool, true, false, List, [], ◌∷◌, ◌++◌, Option, Some, None, option_map, if◌then◌else◌}
use Rattle.type_model.specs.Types.{Typ}
use Rattle.signature_model.specs.Declarations.{Declaration, Label, type_of}
use Rattle.signature_model.specs.Entries.{Environment, constructor_kind, label_kind}
use Rattle.signature_model.specs.Lookups.{lookup}
use Rattle.signature_model.specs.Matching.{used}
use Rattle.typing_model.specs.Demands.{Condition, test, arity, constructor_word, label_word}
use Rattle.typing_model.specs.Contexts.{Choice, Context, is_kept, ask}
use Rattle.typing_model.specs.Parts.{Written, place_of}
use Rattle.typing_model.specs.Names.{names_of, ask_bound, referent_of, then_by, Built, built_in, label_in}
use Rattle.typing_model.specs.BuiltIns.{exn_type}
use Rattle.typing_model.specs.Patterns.{taken_by, built_by}
use Rattle.type_nodes.specs.Readings.{Types}
use Rattle.level_unify.specs.Solutions.{Loose}
use Rattle.env_table.specs.declared.entries.Entry.{Entry}
use Rattle.typing_state.specs.declared.parts.Parts.{Parts}
use Rattle.typing_conditions.specs.Sights.{Sight, Key, value_of, Letters, IsKnownFor, Agrees}
use Rattle.typing_conditions.specs.Frames.{Frame}
use Rattle.typing_conditions.specs.Judging.{AreKept}
use Rattle.typing_conditions.specs.Meanings.{Means}
use Rattle.typing_conditions.specs.Carrying.{Scope, HoldsWritten, IsUnder, Carried, CarriedTo}
use Rattle.typing_conditions.specs.Hiding.{AreOfRow}
use Rattle.typing_conditions.specs.Surroundings.{Surrounds}
use Rattle.typing_steps.specs.States.{is_aloud, sight}
use Rattle.typing_steps.specs.Typing.{as_declared}

-- in each context that a state allows
abbrev pub InEach : Frame → Scope → Sight → Letters → (Context → Type 0) → Type 0
InEach F scope a G P = (V : Types) (c : Context) → Loose a.nodes V → IsUnder scope c → Agrees F.owner a G V c.chosen → HoldsWritten scope a → P c

-- a type of a declaration as it is used at a node, by what is chosen
abbrev pub used_by : ℕ → Typ → Choice → Typ
used_by n t ch = used (ch.letter n) (ch.filled n) t

-- what a path finds as a constructor: its result and its argument
abbrev pub building_in : Environment → Written → Option Built
building_in env p = then_by p.last (λ t. then_by (referent_of (lookup env (names_of p.qualifiers) constructor_kind t.name)) (built_in exn_type))

-- what a constructor with so many arguments asks before they are typed: that it is bound, and that it takes as many
abbrev pub construction_asks : Context → ℕ → Written → ℕ → List Condition
construction_asks c n p given = elim p.last [
  | None ↦ []
  | Some t ↦ ask_bound c n 0 constructor_kind constructor_word p t ++
      elim (built_by c n p t) [ None ↦ [] | Some b ↦ ask n 1 (place_of t) (test (arity t.name (taken_by b) given) (taken_by b == given)) ]
]

-- a node has a type, where there is one
abbrev pub HasIfThere : Frame → Sight → Letters → Option (Choice → Typ) → Option ℕ → Type 0
HasIfThere F b G None None = Unit {0}
HasIfThere F b G None (Some m) = ⊥
HasIfThere F b G (Some t) None = ⊥
HasIfThere F b G (Some t) (Some m) = Means F b G t m

-- the node of a constructor's argument has the argument's type, where it takes one
abbrev pub TakesAs : Frame → Sight → Letters → ℕ → Option Typ → Option ℕ → Type 0
TakesAs F b G n t m = HasIfThere F b G (option_map (used_by n) t) m

-- The definitions find the same constructor in each context, where its demand is kept. What it asks is carried, with letters of the node `own`; what is built and
-- what is taken have its types as they are used there.
pub record BuildsKnown (F : Frame) (scope : Scope) (a : Sight) (G : Letters) (b : Sight) (n own given : ℕ) (p : Written) (m : ℕ) (argument : Option ℕ) : Type 0 where
  pub building : Built
  pub letters : Letters
  pub of_row : AreOfRow own letters
  pub carried : Carried F scope (λ c. construction_asks c n p given) a G b (letters ++ G)
  pub kept : (c : Context) → AreKept c.kept carried.judged → is_kept c n 0 ≡ true
  pub finds : InEach F scope a G (λ c. building_in c.env p ≡ Some building)
  pub builds : Means F b (letters ++ G) (used_by own building.result) m
  pub takes : TakesAs F b (letters ++ G) own building.argument argument

-- The definitions find no constructor, or not where its demand is kept: what is built has a type of its own, for any key.
pub record BuildsUnknown (F : Frame) (scope : Scope) (a : Sight) (G : Letters) (b : Sight) (n given : ℕ) (p : Written) (key : Key) (m : ℕ) : Type 0 where
  pub typed : CarriedTo F scope (λ c. construction_asks c n p given) a G b ((key, m) ∷ G) (λ ch. value_of ch key) m
  pub none : InEach F scope a G (λ c. AreKept c.kept typed.carried.judged → (if is_kept c n 0 then building_in c.env p else None) ≡ None)

-- What the use of a constructor carries, where faults are reported, by whether it is known.
abbrev pub TypesConstructor : (a b : Parts) → List Entry → Written → (given : ℕ) → (known : Bool) → (m : ℕ) → (argument : Option ℕ) → Type 0
TypesConstructor a b env p given true m argument = is_aloud a.telling ≡ true → (F : Frame) (scope : Scope) (G : Letters) (n own : ℕ) → Surrounds as_declared F (sight a) G env scope →
    BuildsKnown F scope (sight a) G (sight b) n own given p m argument
TypesConstructor a b env p given false m argument = (argument ≡ None) × (is_aloud a.telling ≡ true → (F : Frame) (scope : Scope) (G : Letters) (n : ℕ) (key : Key) → ((t : Typ) → IsKnownFor key t) → Surrounds as_declared F (sight a) G env scope →
    BuildsUnknown F scope (sight a) G (sight b) n given p key m)

-- what a label asks: that it is bound
abbrev pub label_asks : Context → ℕ → Written → List Condition
label_asks c n p = elim p.last [ None ↦ [] | Some t ↦ ask_bound c n 0 label_kind label_word p t ]

-- what a path finds as a label
abbrev pub label_in_scope : Environment → Written → Option (Declaration × Label)
label_in_scope env p = then_by p.last (λ t. then_by (referent_of (lookup env (names_of p.qualifiers) label_kind t.name)) label_in)

-- a label of a declaration whose type is `owner`: its own type, and whether it may be set
pub record IsLabelOf (owner body : Typ) (mutable : Bool) (found : Option (Declaration × Label)) : Type 0 where
  pub declaration : Declaration
  pub label : Label
  pub is : found ≡ Some (declaration, label)
  pub owned : type_of declaration ≡ owner
  pub typed : label.body ≡ body
  pub settable : label.is_mutable ≡ mutable

-- The definitions find a label of the same types in each context, where its demand is kept. What it asks is carried, with letters of the node `own`; the record and
-- the field have their types as they are used there.
pub record LabelKnown (F : Frame) (scope : Scope) (a : Sight) (G : Letters) (b : Sight) (n own : ℕ) (p : Written) (record_node field : ℕ) (mutable : Bool) : Type 0 where
  pub owner : Typ
  pub body : Typ
  pub letters : Letters
  pub of_row : AreOfRow own letters
  pub carried : Carried F scope (λ c. label_asks c n p) a G b (letters ++ G)
  pub kept : (c : Context) → AreKept c.kept carried.judged → is_kept c n 0 ≡ true
  pub finds : InEach F scope a G (λ c. IsLabelOf owner body mutable (label_in_scope c.env p))
  pub of_record : Means F b (letters ++ G) (used_by own owner) record_node
  pub of_field : Means F b (letters ++ G) (used_by own body) field

-- The definitions find no label, or not where its demand is kept.
pub record LabelUnknown (F : Frame) (scope : Scope) (a : Sight) (G : Letters) (b : Sight) (n : ℕ) (p : Written) : Type 0 where
  pub carried : Carried F scope (λ c. label_asks c n p) a G b G
  pub none : InEach F scope a G (λ c. AreKept c.kept carried.judged → (if is_kept c n 0 then label_in_scope c.env p else None) ≡ None)

-- What the use of a label carries, where faults are reported.
abbrev pub TypesLabel : (a b : Parts) → List Entry → Written → (record_node field : ℕ) → (mutable : Bool) → Type 0
TypesLabel a b env p record_node field mutable = is_aloud a.telling ≡ true → (F : Frame) (scope : Scope) (G : Letters) (n own : ℕ) → Surrounds as_declared F (sight a) G env scope →
    LabelKnown F scope (sight a) G (sight b) n own p record_node field mutable

-- the same where none is found
abbrev pub TypesNoLabel : (a b : Parts) → List Entry → Written → Type 0
TypesNoLabel a b env p = is_aloud a.telling ≡ true → (F : Frame) (scope : Scope) (G : Letters) (n : ℕ) → Surrounds as_declared F (sight a) G env scope → LabelUnknown F scope (sight a) G (sight b) n p
