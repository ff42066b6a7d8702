-- Where a structure or a signature stands while its items are typed.
use Rattle.std.specs.Prelude.{◌≡◌, ℕ, Bool, true, false, ◌&&◌, List, [], ◌∷◌, ◌++◌, Option, Some, None, if◌then◌else◌}
use Rattle.std.specs.Str.{bytes_eq}
use Rattle.std.specs.HashSet.{contains_text}
use Rattle.std.specs.declared.vec.Vec.{Vec}
use Rattle.std.specs.declared.rc.Rc.{Rc}
use Rattle.std.specs.declared.alloc.Global.{Global}
use Rattle.text_terms.specs.Bytes.{str_bytes}
use Rattle.text_terms.specs.declared.Span.{Span}
use Rattle.signature_model.specs.Lookups.{same_kind}
use Rattle.syntax_tree.specs.declared.Token.{Token}
use Rattle.env_table.specs.declared.entries.Kind.{Kind}
use Rattle.env_table.specs.declared.entries.Kind.TheVariants as kind
use Rattle.env_table.specs.declared.entries.Place.TheVariants as place
use Rattle.env_table.specs.declared.entries.What.{What}
use Rattle.env_table.specs.declared.entries.Entry.{Entry}
use Rattle.env_table.specs.declared.faults.Fault.{Fault}
use Rattle.env_table.specs.declared.faults.FaultKind.TheVariants as fault
use Rattle.env_table.specs.Views.{kind_of}
use Rattle.typing_state.specs.declared.parts.Parts.{Parts}
use Rattle.typing_state.specs.declared.parts.Telling.{Telling}
use Rattle.typing_state.specs.Goes.{faults_of, Told}
use Rattle.typing_state.specs.Messages.{twice_text}
use Rattle.typing_state.specs.Notes.{Noted}
use Rattle.module_steps.specs.declared.scenes.Scene.{Scene}
use Rattle.sig_template.specs.Structures.{entries_of}
use Rattle.module_steps.specs.Listed.{seen_values}

-- whether a name of a kind stands already; names of values, constructors and labels may stand again
abbrev pub has_name : Scene → Kind → List ℕ → Bool
has_name s kind.TypeName n = contains_text s.types n
has_name s kind.Module n = contains_text s.modules n
has_name s kind.ModuleType n = contains_text s.module_types n
has_name s kind.Value n = false
has_name s kind.Constructor n = false
has_name s kind.Label n = false

-- whether names of a kind may stand but once
abbrev pub stands_once : Kind → Bool
stands_once kind.TypeName = true
stands_once kind.Module = true
stands_once kind.ModuleType = true
stands_once kind.Value = false
stands_once kind.Constructor = false
stands_once kind.Label = false

-- the names that stand, and one more
abbrev pub with_name : (Kind → List ℕ → Bool) → Kind → List ℕ → Kind → List ℕ → Bool
with_name has k n j m = if stands_once k && same_kind (kind_of k) (kind_of j) && bytes_eq n m then true else has j m

-- the same names stand
abbrev pub SameNames : (old new : Scene) → Type 0
SameNames old new = (k : Kind) (n : List ℕ) → has_name new k n ≡ has_name old k n

-- one more name stands, and no other
abbrev pub NamesOne : (old new : Scene) → Kind → List ℕ → Type 0
NamesOne old new k n = (j : Kind) (m : List ℕ) → has_name new j m ≡ with_name (has_name old) k n j m

-- all but the names that stand is as before
pub record OnlyNames (old new : Scene) : Type 0 where
  pub env : new.env ≡ old.env
  pub components : new.components ≡ old.components
  pub makes : new.makes ≡ old.makes

-- the names that are told of one: itself where it stands already
abbrev pub told_again : Bool → List ℕ → List (List ℕ)
told_again true n = n ∷ []
told_again false n = []

-- the names of entries that stand again: in front of them, or among those before
abbrev pub repeated : (Kind → List ℕ → Bool) → List Entry → List (List ℕ)
repeated has [] = []
repeated has (e ∷ es) = told_again (has e.kind (str_bytes e.name)) (str_bytes e.name) ++ repeated (with_name has e.kind (str_bytes e.name)) es

-- the names that stand behind entries
abbrev pub with_names : (Kind → List ℕ → Bool) → List Entry → Kind → List ℕ → Bool
with_names has [] = has
with_names has (e ∷ es) = with_names (with_name has e.kind (str_bytes e.name)) es

-- each of these names is told to be defined twice, in order, by exactly one fault; where it is quiet, none is
abbrev pub ToldTwice : Telling → (old new : List Fault) → Span → List (List ℕ) → Type 0
ToldTwice t old new span [] = new ≡ old
ToldTwice t old new span (n ∷ ns) = (mid : List Fault) × Told t old mid span fault.Unique (twice_text n) × ToldTwice t mid new span ns

-- what comes of the demand that the name of a token is new: a missing one changes nothing
abbrev pub AsksNew : Option Token → Kind → (old new : Scene) → (at at' : Parts) → Type 0
AsksNew None k old new at at' = (new ≡ old) × (at' ≡ at)
AsksNew (Some t) k old new at at' = ToldTwice at.telling (faults_of at) (faults_of at') t.span (told_again (has_name old k (str_bytes t.name)) (str_bytes t.name)) × NamesOne old new k (str_bytes t.name)

-- an entry of this name and kind, defined at this token, for this
pub record IsEntry (e : Entry) (t : Token) (k : Kind) (w : What) : Type 0 where
  pub name : str_bytes e.name ≡ str_bytes t.name
  pub kind : e.kind ≡ k
  pub place : e.place ≡ place.Buffer t.span
  pub what : e.what ≡ w

-- these are recorded for a node in an environment
abbrev pub NotedNames : (old new : Parts) → (number : ℕ) → List Entry → List (Option Entry) → Type 0
NotedNames old new number env names = (v : Vec (Option (Rc Entry Global)) Global) × (seen_values v.items ≡ names) × Noted old.telling old new number (record { env = env; ty = None; names = v })

-- an item with a name adds its one entry, which is recorded in front of its parameters
pub record AddsEntry (old new : Scene) (at at' : Parts) (number : ℕ) (t : Token) (k : Kind) (what : What) (parameters : List (Option Entry)) : Type 0 where
  pub entry : Entry
  pub is : IsEntry entry t k what
  pub env : new.env ≡ entry ∷ old.env
  pub components : entries_of new.components.items ≡ entries_of old.components.items ++ entry ∷ []
  pub noted : NotedNames at at' number old.env (Some entry ∷ parameters)

-- an item that names something adds it; without its name it adds nothing
abbrev pub AddsNamed : Option Token → (old new : Scene) → (at at' : Parts) → (number : ℕ) → Kind → What → List (Option Entry) → Type 0
AddsNamed None old new at at' number k what parameters = (new ≡ old) × NotedNames at at' number old.env parameters
AddsNamed (Some t) old new at at' number k what parameters = AddsEntry old new at at' number t k what parameters
