-- Which record type some labels belong to (OCaml manual, 11.7.4, Records), over any entries of which some are labels.
use Rattle.std.specs.Prelude.{Bool, true, false, ◌&&◌, List, [], ◌∷◌, Option, Some, None, if◌then◌else◌}
use Rattle.type_model.specs.Types.{Path, Typ, Var, Arrow, Tuple, Con}
use Rattle.type_model.specs.Origins.{same_path}
use Rattle.signature_model.specs.Declarations.{Name, type_of}
use Rattle.signature_model.specs.Components.{same_name}
use Rattle.signature_model.specs.Entries.{Referent, a_value, a_constructor, an_exception, a_label, a_type, a_module, a_module_type, Entry, Environment}
use Rattle.signature_model.specs.Lookups.{FoundAmong, a_hole, nothing, found, newest_by, ScopeOf, known, unknown_scope, no_scope, Found, scope_behind}

-- a label as it is written: the modules in front of it, and its name
pub record Written : Type 0 where
  pub modules : List Name
  pub name : Name

-- the first path of modules that a label has
abbrev pub first_path : List Written → List Name
first_path [] = []
first_path (l ∷ ls) = elim l.modules [ [] ↦ first_path ls | m ∷ ms ↦ m ∷ ms ]

-- the modules in which a label is looked for: its own path, or that of the first label that has one
abbrev pub path_for : List Written → Written → List Name
path_for ls l = elim l.modules [ [] ↦ first_path ls | m ∷ ms ↦ m ∷ ms ]

-- what an entry is as a label: its name, and the origin of the record type that it belongs to, or none where it is no label
pub record Labelled (E : Type 0) : Type 0 where
  pub name_of : E → Name
  pub record_type : E → Option Path

-- whether a record type, which may be absent, is that of this origin
abbrev pub is_of_type : Path → Option Path → Bool
is_of_type o None = false
is_of_type o (Some p) = same_path o p

-- whether an entry is a label of this name, of the record type of this origin
abbrev pub is_label_of : {E : Type 0} → Labelled E → Path → Name → E → Bool
is_label_of L o n e = same_name n (L.name_of e) && is_of_type o (L.record_type e)

-- whether an optional value is there
abbrev pub is_some : {A : Type 0} → Option A → Bool
is_some None = false
is_some (Some a) = true

-- whether a label of this name, of the record type of this origin, stands in a scope
abbrev pub has_label : {E : Type 0} → Labelled E → Path → Name → ScopeOf E → Bool
has_label L o n (known env) = is_some (newest_by (is_label_of L o n) env)
has_label L o n unknown_scope = false
has_label L o n no_scope = false

-- whether a record type has each of these labels, each of which is looked for in a scope of its own
abbrev pub has_each : {E : Type 0} → Labelled E → (Written → ScopeOf E) → Path → List Written → Bool
has_each L scope o [] = true
has_each L scope o (l ∷ ls) = has_label L o l.name (scope l) && has_each L scope o ls

-- whether the record type of an entry, where it is a label, has each of these labels
abbrev pub belongs_to : {E : Type 0} → Labelled E → (Written → ScopeOf E) → List Written → Option Path → Bool
belongs_to L scope all None = false
belongs_to L scope all (Some o) = has_each L scope o all

-- whether a name is the one that is asked for, if one is
abbrev pub has_name : Option Name → Name → Bool
has_name None m = true
has_name (Some n) m = same_name n m

-- the newest label in a scope, of the name where one is asked, whose record type has each of the labels
abbrev pub newest_label : {E : Type 0} → Labelled E → (Written → ScopeOf E) → List Written → Option Name → ScopeOf E → FoundAmong E
newest_label L scope all n (known env) = found (newest_by (λ e. has_name n (L.name_of e) && belongs_to L scope all (L.record_type e)) env)
newest_label L scope all n unknown_scope = a_hole
newest_label L scope all n no_scope = nothing

-- whether the modules of a label are there
abbrev pub is_there : {E : Type 0} → ScopeOf E → Bool
is_there (known env) = true
is_there unknown_scope = true
is_there no_scope = false

-- whether what is in the modules of a label is known; where they aren't there, nothing is unknown
abbrev pub is_known : {E : Type 0} → ScopeOf E → Bool
is_known (known env) = true
is_known unknown_scope = false
is_known no_scope = true

-- whether a test holds of the scope of each label
abbrev pub each_scope : {E : Type 0} → (ScopeOf E → Bool) → (Written → ScopeOf E) → List Written → Bool
each_scope test scope [] = true
each_scope test scope (l ∷ ls) = test (scope l) && each_scope test scope ls

-- the newest label that tells the record type: one of the name of the first label, or of any name where no label is written
abbrev pub first_label : {E : Type 0} → Labelled E → List E → (Written → ScopeOf E) → List Written → List Written → FoundAmong E
first_label L env scope all [] = newest_label L scope all None (known env)
first_label L env scope all (l ∷ ls) = newest_label L scope all (Some l.name) (scope l)

-- The newest record type that has every label, told by the entry of the first label in it; without labels the newest record type in scope.
-- It is nothing where a label's module isn't there, and otherwise a hole where one isn't known.
abbrev pub record_by : {E : Type 0} → Labelled E → List E → (Written → ScopeOf E) → List Written → FoundAmong E
record_by L env scope ls = if each_scope is_there scope ls then (if each_scope is_known scope ls then first_label L env scope ls ls else a_hole) else nothing

-- the same for the entries of an environment

-- the origin of a type that is a constructor
abbrev pub origin_of : Typ → Option Path
origin_of (Var v) = None
origin_of (Arrow a b) = None
origin_of (Tuple ts) = None
origin_of (Con o ts) = Some o

-- the origin of the record type of a name in scope that stands for a label
abbrev pub record_of_label : Referent → Option Path
record_of_label (a_value s) = None
record_of_label (a_constructor d k) = None
record_of_label (an_exception o) = None
record_of_label (a_label d l) = origin_of (type_of d)
record_of_label (a_type d) = None
record_of_label (a_module s) = None
record_of_label (a_module_type t) = None

-- what the entries of an environment are as labels
abbrev pub label_entries : Labelled Entry
label_entries = record { name_of = λ e. e.name; record_type = λ e. record_of_label e.stands_for }

-- the scope in which a written label is looked for
abbrev pub scope_for : Environment → List Written → Written → ScopeOf Entry
scope_for env ls l = scope_behind env (path_for ls l)

-- the record type of some written labels in an environment, told by the entry of a label
abbrev pub record_of : Environment → List Written → Found
record_of env ls = record_by label_entries env (scope_for env ls) ls
