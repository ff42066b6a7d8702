-- What the record type of labels carries, and what a field of it does.
use Rattle.std.specs.Prelude.{◌≡◌, ◌≢◌, ◌⊎◌, ℕ, true, not, List, [], ◌∷◌, ◌++◌, slice_get, Option, Some, None, option_map}
use Rattle.text_terms.specs.declared.Span.{Span}
use Rattle.token_model.specs.Kinds.{Tok}
use Rattle.syntax_tree.specs.View.{place_of}
use Rattle.type_model.specs.Types.{Path, Typ}
use Rattle.type_model.specs.Substitutions.{Subst, apply}
use Rattle.signature_model.specs.Declarations as rules
use Rattle.signature_model.specs.Declarations.{Name, type_of}
use Rattle.signature_model.specs.Lookups.{FoundAmong}
use Rattle.signature_model.specs.Records.{record_by}
use Rattle.typing_model.specs.Parts as parts
use Rattle.typing_model.specs.Contexts.{Choice}
use Rattle.typing_model.specs.Names.{then_by}
use Rattle.typing_model.specs.Records.{is_among, ask_record, ask_once, find_label, labels_in, labels_of, used_in_record}
use Rattle.typing_model.specs.Patterns.{kept_record}
use Rattle.type_nodes.specs.Nodes.{Arrow, Tuple, IsNode, IsSound}
use Rattle.type_nodes.specs.Links.{reading}
use Rattle.type_nodes.specs.Readings.{Types}
use Rattle.level_unify.specs.Instances.{Instantiated}
use Rattle.env_table.specs.declared.entries.Declaration.{Declaration}
use Rattle.env_table.specs.declared.entries.Entry.{Entry}
use Rattle.env_table.specs.declared.entries.Label.{Label}
use Rattle.env_table.specs.declared.faults.FaultKind.TheVariants as fault
use Rattle.env_table.specs.Labels.{labelled, scope_for}
use Rattle.typing_conditions.specs.Declared.{UnknownApart, NoneUnknown, DeclaredAs}
use Rattle.typing_state.specs.declared.parts.Parts.{Parts}
use Rattle.typing_state.specs.declared.messages.Word.TheVariants as word
use Rattle.typing_state.specs.Bound.{lost_among, TellsLost}
use Rattle.typing_state.specs.Goes.{faults_of, Goes, OnlyStore}
use Rattle.typing_state.specs.Messages.{twice_text}
use Rattle.typing_state.specs.Places.{place_of_tok}
use Rattle.typing_state.specs.Types.{level_for, JoinedIfNodes}
use Rattle.typing_conditions.specs.Locals.{IsOwn}
use Rattle.typing_conditions.specs.Sights.{Sight, number_in, Letters, AreNodes}
use Rattle.typing_conditions.specs.Frames.{Frame, IsRoot}
use Rattle.typing_conditions.specs.Judging.{AreKept}
use Rattle.typing_conditions.specs.Meanings.{Means}
use Rattle.typing_conditions.specs.Carrying.{Scope, Carried}
use Rattle.typing_conditions.specs.Hiding.{AreOfRow, NotesRow}
use Rattle.typing_conditions.specs.Surroundings.{Surrounds}
use Rattle.typing_steps.specs.States.{is_aloud, sight}
use Rattle.typing_steps.specs.Demands.{TestedAs}
use Rattle.typing_steps.specs.Typing.{as_declared}
use Rattle.typing_steps.specs.Building.{InEach, HasIfThere, used_by}
use Rattle.record_steps.specs.Alike.{IsOneWith}
use Rattle.record_steps.specs.Named.{labels_here, label_here}

-- the first qualifier among labels that names no module, by the names of the code; a path whose last token is missing counts for nothing
abbrev pub lost_of : List Entry → List parts.Written → Option Tok
lost_of env [] = None
lost_of env (p ∷ ps) = elim (then_by p.last (λ t. lost_among env p.qualifiers)) [ None ↦ lost_of env ps | Some q ↦ Some q ]

-- what some labels find by the names of the code
abbrev pub found_here : List Entry → List parts.Written → FoundAmong Entry
found_here env ps = record_by labelled env (scope_for env (labels_of ps)) (labels_of ps)

-- labels that find nothing are reported by exactly one fault, where one is written
abbrev pub TellsNone : (lost first : Option Tok) → (a b : Parts) → Type 0
TellsNone lost None a b = faults_of b ≡ faults_of a
TellsNone lost (Some t) a b = TellsLost lost a b t word.Label

-- the last one of a list
abbrev pub IsLast : List ℕ → ℕ → Type 0
IsLast [] z = ⊥
IsLast (m ∷ []) z = m ≡ z
IsLast (m ∷ k ∷ ms) z = IsLast (k ∷ ms) z

-- a node is the last part of a tuple, after which nothing is done; or the other reads as no tuple that has one
abbrev pub IsLastPart : (made b : Parts) → (tuple m : ℕ) → Type 0
IsLastPart made b tuple m = ((ms : List ℕ) × (reading made.store.nodes tuple ≡ Some (Tuple ms)) × IsLast ms m × (b ≡ made))
    ⊎ ((ms : List ℕ) (z : ℕ) → IsNode made.store.nodes tuple → reading made.store.nodes tuple ≡ Some (Tuple ms) → IsLast ms z → ⊥)

-- An instance of a declaration's root was taken: without parameters it is the node, and else its last part is.
pub record TakesRoot (d : Declaration) (a b : Parts) (m : ℕ) : Type 0 where
  pub made : Parts
  pub node : ℕ
  pub instance : IsNode a.store.nodes d.root.0 → Instantiated a.store.nodes made.store.nodes d.root.0 (level_for a.level) node
  pub sound : IsNode a.store.nodes d.root.0 → IsSound made.store.nodes
  pub rest : OnlyStore a made
  pub part : ((d.arity ≡ 0) × (m ≡ node) × (b ≡ made)) ⊎ ((d.arity ≢ 0) × IsLastPart made b node m)

-- An instance of a label's root was taken, an arrow from the record to the field; and the record was joined with a type, after which the store is sound.
pub record TakesField (l : Label) (a b : Parts) (m field : ℕ) : Type 0 where
  pub made : Parts
  pub joining : Parts
  pub node : ℕ
  pub from : ℕ
  pub instance : IsNode a.store.nodes l.root.0 → Instantiated a.store.nodes made.store.nodes l.root.0 (level_for a.level) node
  pub sound : IsNode a.store.nodes l.root.0 → IsSound made.store.nodes
  pub rest : OnlyStore a joining
  pub sides : ((reading made.store.nodes node ≡ Some (Arrow from field)) × (joining ≡ made)) ⊎ ((x y : ℕ) → IsNode made.store.nodes node → reading made.store.nodes node ≡ Some (Arrow x y) → ⊥)
  pub joined : JoinedIfNodes joining.store b.store from m
  pub sound_after : IsSound b.store.nodes
  pub rest_after : OnlyStore joining b
  pub goes_after : Goes joining b

-- the demand that a written label is new among others is kept, and all stays; or it is reported by exactly one fault
abbrev pub AsksOnce : List Name → Option Tok → (a b : Parts) → Type 0
AsksOnce seen None a b = b ≡ a
AsksOnce seen (Some t) a b = (span : Span) × (place_of span ≡ place_of_tok t) × TestedAs (not (is_among t.name seen)) a b span fault.Unique (twice_text t.name)

-- the label of a declaration of the code that is written
abbrev pub label_written : Declaration → Option Tok → Option Label
label_written d last = then_by last (λ t. label_here t.name (labels_here d.shape))

-- the type of a field by its label; where there is none all stays
abbrev pub GivesField : Option Label → (a b : Parts) → (m : ℕ) → Option ℕ → Type 0
GivesField None a b m ty = (ty ≡ None) × (b ≡ a)
GivesField (Some l) a b m ty = (field : ℕ) × (ty ≡ Some field) × TakesField l a b m field

-- What is to be known of a declaration so that no letter of its fields is in doubt: no variable in its roots has an unknown type as its name, and it is a type of its own.
pub record IsPlainlyOwn (names : Types) (e : rules.Declaration) : Type 0 where
  pub plain : NoneUnknown names
  pub own : (o : Path) × (e.definition ≡ rules.Own o)

-- a declaration of the code stands for one of the definitions, by roots of the frame; `known`: what a frame says to be known of it
pub record StandsFor (F : Frame) (b : Sight) (d : Declaration) (e : rules.Declaration) : Type 0 where
  pub roots : List ℕ
  pub names : Types
  pub apart : UnknownApart names
  pub are_roots : (k r : ℕ) → slice_get roots k ≡ Some r → IsRoot F b r
  pub is : DeclaredAs b.nodes roots names d e
  pub known : F.known ≡ true → IsPlainlyOwn names e

-- a node's own type is that of a declaration with types in the place of its parameters
abbrev pub IsUseOf : Sight → rules.Declaration → ℕ → Type 0
IsUseOf b e m = (K : Types) → IsOwn b.nodes K → (s : Subst) × (K m ≡ apply s (type_of e))

-- The definitions find a declaration in each context, as far as their demand is kept: it is one with `owner`, for which that of the code stands. What they ask is
-- carried, with letters of the node n alone; a node has the type of the record as it is used there.
pub record RecordKnown (F : Frame) (scope : Scope) (a : Sight) (G : Letters) (b : Sight) (n k : ℕ) (ps : List parts.Written) (d : Declaration) (m : ℕ) : Type 0 where
  pub owner : rules.Declaration
  pub letters : Letters
  pub inside : AreNodes letters b.nodes
  pub carried : Carried F scope (λ c. ask_record c n k ps) a G b (letters ++ G)
  pub finds : InEach F scope a G (λ c. AreKept c.kept carried.judged → IsOneWith owner (kept_record c n k ps))
  pub of_row : AreOfRow n letters
  pub has_type : Means F b (letters ++ G) (used_by n (type_of owner)) m
  pub use_of : F.known ≡ true → IsUseOf b owner m
  pub stands : StandsFor F b d owner

-- The definitions find no declaration, or not where their demand is kept.
pub record RecordUnknown (F : Frame) (scope : Scope) (a : Sight) (G : Letters) (b : Sight) (n k : ℕ) (ps : List parts.Written) : Type 0 where
  pub carried : Carried F scope (λ c. ask_record c n k ps) a G b G
  pub none : InEach F scope a G (λ c. AreKept c.kept carried.judged → kept_record c n k ps ≡ None)

-- What the record type of labels carries, where faults are reported.
abbrev pub TypesRecord : (a b : Parts) → List Entry → List parts.Written → Declaration → (m : ℕ) → Type 0
TypesRecord a b env ps d m = is_aloud a.telling ≡ true → (F : Frame) (scope : Scope) (G : Letters) (n k : ℕ) → Surrounds as_declared F (sight a) G env scope → RecordKnown F scope (sight a) G (sight b) n k ps d m

-- the same where none is found
abbrev pub TypesNoRecord : (a b : Parts) → List Entry → List parts.Written → Type 0
TypesNoRecord a b env ps = is_aloud a.telling ≡ true → (F : Frame) (scope : Scope) (G : Letters) (n k : ℕ) → Surrounds as_declared F (sight a) G env scope → RecordUnknown F scope (sight a) G (sight b) n k ps

-- the type of a written label among the labels of a declaration
abbrev pub field_in : List rules.Label → parts.Written → Option Typ
field_in ls p = then_by p.last (λ t. option_map (λ l. l.body) (find_label t.name ls))

-- the same as it is used at the field's node, in the record at the node n
abbrev pub field_used_in : ℕ → ℕ → rules.Declaration → parts.Written → Option (Choice → Typ)
field_used_in n field e p = option_map (used_in_record n field (type_of e)) (field_in (labels_in e.shape) p)

-- A field's label is asked to be new among others, of which nothing else is asked; the node of its type has the type of its label as it is used at the field's node, in the record at
-- the node n. `none`: where all of names is known the record's letters are the field's.
pub record FieldTyped (F : Frame) (scope : Scope) (a : Sight) (G : Letters) (b : Sight) (n field : ℕ) (seen : List Name) (p : parts.Written) (e : rules.Declaration) (ty : Option ℕ) : Type 0 where
  pub letters : Letters
  pub inside : AreNodes letters b.nodes
  pub carried : Carried F scope (λ c. ask_once field 0 seen p) a G b (letters ++ G)
  pub none : F.known ≡ true → letters ≡ []
  pub has_type : HasIfThere F b (letters ++ G) (field_used_in n field e p) ty

-- What the beginning of a field carries, where faults are reported, of a record type that is known by a declaration, with the node of its type.
abbrev pub TypesField : (a b : Parts) → Declaration → (m : ℕ) → List Name → parts.Written → Option ℕ → Type 0
TypesField a b d m seen p ty = is_aloud a.telling ≡ true → (F : Frame) (scope : Scope) (G : Letters) (n field : ℕ) (e : rules.Declaration) → StandsFor F (sight a) d e → Means F (sight a) G (used_by n (type_of e)) m →
    (F.known ≡ true → IsUseOf (sight a) e m) → FieldTyped F scope (sight a) G (sight b) n field seen p e ty

-- nothing that conditions see has changed, as where a node is recorded without a type
abbrev pub AsksNothing : (a b : Parts) → Type 0
AsksNothing a b = (F : Frame) (scope : Scope) (G : Letters) → Carried F scope (λ c. []) (sight a) G (sight b) G

-- the names in scope are recorded for the node of this number, among those of all items
pub record HasScope (a : Sight) (n : ℕ) (env : List Entry) : Type 0 where
  pub item : ℕ
  pub place : ℕ
  pub number : n ≡ number_in item place
  pub at : a.scopes item place ≡ Some env

-- nothing that conditions see has changed, but that the names in scope are recorded for the node k, where faults are reported
pub record NotesScope (a b : Parts) (k : ℕ) (env : List Entry) : Type 0 where
  pub asks : AsksNothing a b
  pub scope : is_aloud a.telling ≡ true → HasScope (sight b) k env

-- the same where the node k is noted without a type, for the first time, and nothing is hidden
pub record NotesNode (a b : Parts) (k : ℕ) (env : List Entry) : Type 0 where
  pub asks : AsksNothing a b
  pub scope : is_aloud a.telling ≡ true → HasScope (sight b) k env
  pub hides : (F : Frame) (scope : Scope) (G : Letters) → (asks F scope G).hidden ≡ []
  pub notes : is_aloud a.telling ≡ true → (m : ℕ) → NotesRow (sight a) (sight b) k m
