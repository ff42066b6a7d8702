-- What stands in scope at any depth, shadowed or not, and the declarations there.
use Rattle.std.specs.Prelude.{◌≡◌, ◌⊎◌, ℕ, suc, ◌+◌, ◌*◌, List, [], ◌∷◌, map, Option, Some, None, option_map}
use Rattle.type_model.specs.Types.{Path}
use Rattle.type_terms.specs.Views.{path_of}
use Rattle.env_table.specs.declared.entries.What.{out-What}
use Rattle.env_table.specs.declared.entries.Sig.TheOpen.{What-F}
use Rattle.env_table.specs.declared.entries.Declaration.{Declaration}
use Rattle.env_table.specs.declared.entries.Entry.{Entry}
use Rattle.env_table.specs.declared.walk.Entries.{Entries}
use Rattle.env_table.specs.Views.{names_of}
use Rattle.type_print.specs.Paths.{contents, entries_weight}

-- an entry stands among others, or in a module that stands among them, at any depth
pub data Stands (e : Entry) : List Entry → Type 0 where
  here : {es : List Entry} → Stands e (e ∷ es)
  later : {x : Entry} {es : List Entry} → Stands e es → Stands e (x ∷ es)
  within : {x : Entry} {es : List Entry} → Stands e (contents x) → Stands e (x ∷ es)

-- the declaration that an entry is
abbrev pub declared_by : {S W C E T : Type 0} → What-F S W C E T → Option Declaration
declared_by (What-F.Scheme n) = None
declared_by (What-F.Constructor d k) = None
declared_by (What-F.Exception c) = None
declared_by (What-F.Label d k) = None
declared_by (What-F.Type d) = Some d.value
declared_by (What-F.Module s) = None
declared_by (What-F.ModuleType t) = None

-- the declaration in an entry, where it is a type
abbrev pub declaration_in : Entry → Option Declaration
declaration_in e = declared_by (out-What e.what)

-- a declaration that stands in scope makes an origin
pub record IsDeclared (env : List Entry) (o : Path) (d : Declaration) : Type 0 where
  pub entry : Entry
  pub stands : Stands entry env
  pub is : declaration_in entry ≡ Some d
  pub makes : option_map path_of d.origin ≡ Some o

-- none does
abbrev pub IsUndeclared : List Entry → Path → Type 0
IsUndeclared env o = (d : Declaration) → IsDeclared env o d → ⊥

-- what the search answers: such a declaration, or that there is none
abbrev pub IsFoundOrNone : List Entry → Path → Option Declaration → Type 0
IsFoundOrNone env o (Some d) = IsDeclared env o d
IsFoundOrNone env o None = IsUndeclared env o

-- the lists that are still to be searched
abbrev pub lists_of : List Entries → List (List Entry)
lists_of es = map names_of es

-- an entry stands in one of several lists
abbrev pub StandsInAny : Entry → List (List Entry) → Type 0
StandsInAny e [] = ⊥
StandsInAny e (es ∷ ess) = Stands e es ⊎ StandsInAny e ess

-- how much is still to be searched
abbrev pub lists_weight : List (List Entry) → ℕ
lists_weight [] = 0
lists_weight (es ∷ ess) = suc (entries_weight es * 2) + lists_weight ess
