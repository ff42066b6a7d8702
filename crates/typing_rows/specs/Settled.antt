-- What it is that the conditions of a part are settled: names alone decide its demands and the types of its nodes.
use Rattle.std.specs.Prelude.{◌≡◌, ◌⊎◌, ℕ, List, [], ◌∷◌, ◌++◌, length, map, take}
use Rattle.type_model.specs.Types.{Typ}
use Rattle.typing_model.specs.Demands.{AllHold}
use Rattle.signature_model.specs.Declarations.{Name}
use Rattle.typing_model.specs.Contexts.{Choice, Context, parameters}
use Rattle.typing_conditions.specs.Sights.{Report, Sight}
use Rattle.typing_conditions.specs.Judging.{Judgement, judgements, refused, AreKept, Follows, StartsWith, FallsShort, AnySeen, Meets}
use Rattle.typing_conditions.specs.Carrying.{Asks}
use Rattle.env_table.specs.declared.entries.Declaration.{Declaration}
use Rattle.env_table.specs.declared.entries.Entry.{Entry}
use Rattle.typing_rows.specs.Around.{TypesAs}

-- nodes, with the one type that each has
abbrev pub Fixes : Type 0
Fixes = List (ℕ × Typ)

-- a choice has these types for these nodes
abbrev pub AreFixed : Fixes → Choice → Type 0
AreFixed [] ch = Unit {0}
AreFixed (f ∷ fs) ch = (ch.type_at f.0 ≡ f.1) × AreFixed fs ch

-- What a part stands behind: the names of the code, the types by which its declarations are known, the names of the parameters of the declaration, the judgements of
-- the demands before it, and the nodes that have one type there.
pub record Before : Type 0 where
  pub env : List Entry
  pub named : Declaration → Typ
  pub names : List Name
  pub judged : List Judgement
  pub fixes : Fixes

-- a context stands behind it: its types are found by the names of the code, and its type variables are these parameters
pub record IsBehind (B : Before) (c : Context) : Type 0 where
  pub types : TypesAs B.named B.env c.env
  pub variables : c.variables ≡ parameters B.names
  pub kept : AreKept c.kept B.judged
  pub fixed : AreFixed B.fixes c.chosen

-- nothing but names
abbrev pub among : List Entry → (Declaration → Typ) → List Name → Before
among env named names = record { env = env; named = named; names = names; judged = []; fixes = [] }

-- these names of the code and of parameters
abbrev pub Around : List Entry → List Name → Before → Type 0
Around env names B = (B.env ≡ env) × (B.names ≡ names)

-- the same, and further judgements and nodes
abbrev pub behind : Before → List Judgement → Fixes → Before
behind B js fs = record { env = B.env; named = B.named; names = B.names; judged = B.judged ++ js; fixes = B.fixes ++ fs }

-- Conditions are settled, with these judgements and reports, and with one type for each of these nodes.
-- `counted`: there are as many reports as demands that weren't kept.
-- `sound`: a choice that has these types meets the conditions, under the demands that were kept, and what was reported are the others, in order.
-- `follows`: the same of the order of the judgements, whatever is kept, as long as it is what was judged.
-- `complete`: a choice that meets the conditions, under any set of kept demands, keeps the same demands and has these types; or it is the first not to keep one
-- that was kept. `first`: the same of the demands alone for the first conditions, where only they are met.
pub record Settled (B : Before) (asks : Asks) (judged : List Judgement) (told : List Report) (fixes : Fixes) : Type 0 where
  pub counted : length told ≡ refused judged
  pub sound : (c : Context) → IsBehind B c → AreKept c.kept judged → AreFixed fixes c.chosen → Meets AnySeen c.kept (asks c) judged told
  pub follows : (c : Context) → IsBehind B c → AreFixed fixes c.chosen → Follows c.kept (asks c) judged
  pub complete : (c : Context) → IsBehind B c → AllHold c.kept (asks c) → ((judgements c.kept (asks c) ≡ judged) × AreFixed fixes c.chosen) ⊎ FallsShort (judgements c.kept (asks c)) judged
  pub first : (k : ℕ) (c : Context) → IsBehind B c → AllHold c.kept (take k (asks c)) → StartsWith judged (judgements c.kept (take k (asks c))) ⊎ FallsShort (judgements c.kept (take k (asks c))) judged

-- each choice that has these types has this one for a node
abbrev pub Gives : Fixes → ℕ → Typ → Type 0
Gives fixes n t = (ch : Choice) → AreFixed fixes ch → ch.type_at n ≡ t

-- the same of several nodes
abbrev pub GivesAll : Fixes → List ℕ → List Typ → Type 0
GivesAll fixes ns ts = (ch : Choice) → AreFixed fixes ch → map ch.type_at ns ≡ ts

-- from one state to another the conditions of a type expression are settled and reported, and its node has one type
pub record SettledTo (B : Before) (asks : Asks) (a b : Sight) (n : ℕ) : Type 0 where
  pub judged : List Judgement
  pub told : List Report
  pub fixes : Fixes
  pub type : Typ
  pub reports : b.reports ≡ a.reports ++ told
  pub settled : Settled B asks judged told fixes
  pub gives : Gives fixes n type

-- the same of several type expressions, for as many nodes of the store
pub record AllSettled (B : Before) (asks : Asks) (a b : Sight) (ns ms : List ℕ) : Type 0 where
  pub judged : List Judgement
  pub told : List Report
  pub fixes : Fixes
  pub types : List Typ
  pub reports : b.reports ≡ a.reports ++ told
  pub settled : Settled B asks judged told fixes
  pub gives : GivesAll fixes ns types
  pub many : length ns ≡ length ms
