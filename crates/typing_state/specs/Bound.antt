-- What comes of the demand that a path finds something.
use Rattle.std.specs.Prelude.{◌≡◌, ℕ, List, [], map, slice_get, Option, Some, None}
use Rattle.token_model.specs.Kinds.{Tok}
use Rattle.tree_model.specs.Trees.{Place}
use Rattle.text_terms.specs.declared.Span.{Span}
use Rattle.syntax_tree.specs.View.{place_of}
use Rattle.signature_model.specs.Declarations.{Name}
use Rattle.signature_model.specs.Lookups.{FoundAmong, an_entry, a_hole, nothing, lookup_by}
use Rattle.env_table.specs.declared.entries.Entry.{Entry}
use Rattle.env_table.specs.declared.entries.Kind.{Kind}
use Rattle.env_table.specs.declared.entries.Kind.TheVariants as kind
use Rattle.env_table.specs.Views.{is_named, inside, kind_of}
use Rattle.env_table.specs.declared.faults.FaultKind.TheVariants as fault
use Rattle.env_table.specs.Scopes.{lost_behind}
use Rattle.typing_state.specs.declared.messages.Word.{Word}
use Rattle.typing_state.specs.declared.messages.Word.TheVariants as word
use Rattle.typing_state.specs.declared.parts.Parts.{Parts}
use Rattle.typing_state.specs.Goes.{faults_of, OnlyFaults, Told}
use Rattle.typing_state.specs.Messages.{unbound_text}
use Rattle.typing_state.specs.Places.{place_of_tok, place_without_point}

-- the names of tokens
abbrev pub names_of_tokens : List Tok → List Name
names_of_tokens ts = map (λ t. t.name) ts

-- exactly one fault tells at a place that nothing of this kind is bound to the name
abbrev pub TellsUnbound : (old new : Parts) → Place → Word → Name → Type 0
TellsUnbound old new at kind name = (span : Span) × (place_of span ≡ at) × Told old.telling (faults_of old) (faults_of new) span fault.Bound (unbound_text kind name)

-- a path that finds nothing is told at the qualifier that leads to no module, if one does, or else at the last name
abbrev pub TellsLost : Option Tok → (old new : Parts) → (last : Tok) → Word → Type 0
TellsLost None old new last kind = TellsUnbound old new (place_of_tok last) kind last.name
TellsLost (Some q) old new last kind = TellsUnbound old new (place_without_point q) word.Module q.name

-- exactly one fault tells a path that finds nothing, and all but the faults is as before
pub record ReportsLost (old new : Parts) (lost : Option Tok) (last : Tok) (kind : Word) : Type 0 where
  pub told : TellsLost lost old new last kind
  pub rest : OnlyFaults old new

-- the one at a place
abbrev pub token_at : List Tok → Option ℕ → Option Tok
token_at ts None = None
token_at ts (Some k) = slice_get ts k

-- the first qualifier that leads to no module
abbrev pub lost_among : List Entry → List Tok → Option Tok
lost_among env qs = token_at qs (lost_behind env [] 0 (names_of_tokens qs))

-- what a path to a last name finds
abbrev pub found_at : List Entry → List Tok → Kind → Tok → FoundAmong Entry
found_at env qs kind last = lookup_by is_named inside env (names_of_tokens qs) (kind_of kind) last.name

-- what messages call a kind
abbrev pub word_of : Kind → Word
word_of kind.Value = word.Value
word_of kind.Constructor = word.Constructor
word_of kind.Label = word.Label
word_of kind.TypeName = word.Type
word_of kind.Module = word.Module
word_of kind.ModuleType = word.ModuleType

-- what comes of the demand: the entry that a path finds, and none in a module that isn't known, where all is as before; where it finds nothing, that is told, and nothing else changes
abbrev pub BoundIs : FoundAmong Entry → Option Entry → (old new : Parts) → (lost : Option Tok) → (last : Tok) → Word → Type 0
BoundIs (an_entry e) given old new lost last kind = (given ≡ Some e) × (new ≡ old)
BoundIs a_hole given old new lost last kind = (given ≡ None) × (new ≡ old)
BoundIs nothing given old new lost last kind = (given ≡ None) × ReportsLost old new lost last kind

-- the same of a last name that may be missing, where the demand isn't made
abbrev pub BoundLastIs : Option Tok → Kind → Option Entry → (old new : Parts) → List Entry → List Tok → Type 0
BoundLastIs None kind given old new env qs = (given ≡ None) × (new ≡ old)
BoundLastIs (Some last) kind given old new env qs = BoundIs (found_at env qs kind last) given old new (lost_among env qs) last (word_of kind)
