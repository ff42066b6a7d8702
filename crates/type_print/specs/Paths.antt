-- The search for the path of an origin: module by module, those of fewer names first, and of these the newer first; in each the newest type that makes it.
use Rattle.std.specs.Prelude.{ℕ, zero, suc, ◌+◌, Bool, true, false, ◌&&◌, List, [], ◌∷◌, ◌++◌, map, codes, Option, Some, None, option_map, if◌then◌else◌}
use Rattle.std.specs.Str.{bytes_eq}
use Rattle.text_terms.specs.Bytes.{str_bytes}
use Rattle.type_model.specs.Types.{Path}
use Rattle.signature_model.specs.Declarations.{Name}
use Rattle.signature_model.specs.Entries as rules
use Rattle.signature_model.specs.Lookups.{same_kind, newest_by}
use Rattle.signature_model.specs.Records.{is_of_type}
use Rattle.type_print_model.specs.Paths.{Naming}
use Rattle.env_table.specs.declared.entries.Sig.TheOpen.{Sig-F, What-F, Components-F, Entry-F, Template-F}
use Rattle.env_table.specs.declared.entries.Entry.{Entry, fold-Entry}
use Rattle.env_table.specs.Views.{kind_of, is_named, inside, names_in, makes}

-- the entries of an environment, for the paths by which types are named
abbrev pub naming : Naming Entry
naming = record { is_named = is_named; inside = inside; makes = makes }

-- the origin that is made, where there is an entry
abbrev pub makes_of : Option Entry → Option Path
makes_of None = None
makes_of (Some e) = makes e

-- whether the newest type of a name makes an origin
abbrev pub finds : Path → Name → List Entry → Bool
finds o n es = is_of_type o (makes_of (newest_by (is_named rules.type_kind n) es))

-- whether an entry is a type that makes an origin
abbrev pub is_maker : Path → Entry → Bool
is_maker o e = same_kind rules.type_kind (kind_of e.kind) && is_of_type o (makes e)

-- whether an entry gives an origin a name among entries: it is a type that makes it, and so does the newest type of its name
abbrev pub gives_name : Path → List Entry → Entry → Bool
gives_name o es e = is_maker o e && finds o (str_bytes e.name) es

-- the name of an origin among entries: that of the newest one which gives it a name
abbrev pub name_for : Path → List Entry → Option Name
name_for o es = option_map (λ e. str_bytes e.name) (newest_by (gives_name o es) es)

-- whether an entry is a module
abbrev pub is_module : Entry → Bool
is_module e = same_kind rules.module_kind (kind_of e.kind)

-- whether a name is one of a list
abbrev pub among : Name → List Name → Bool
among n [] = false
among n (m ∷ ms) = if bytes_eq m n then true else among n ms

-- what stands in an entry, where that is known
abbrev pub contents : Entry → List Entry
contents e = names_in (inside e)

-- a module: the names on the way to it, the innermost first, and what stands in it
abbrev pub Scoped : Type 0
Scoped = List Name × List Entry

-- the modules among entries that no newer one hides, behind a way; `seen` are the names of newer ones
abbrev pub modules_behind : List Name → List Name → List Entry → List Scoped
modules_behind way seen [] = []
modules_behind way seen (e ∷ es) =
    if is_module e
    then (if among (str_bytes e.name) seen then modules_behind way seen es else (str_bytes e.name ∷ way, contents e) ∷ modules_behind way (str_bytes e.name ∷ seen) es)
    else modules_behind way seen es

-- how many entries stand in an entry, in modules in it and so on, with itself

-- these numbers together
abbrev pub sum_of : List ℕ → ℕ
sum_of [] = 0
sum_of (n ∷ ns) = n + sum_of ns

-- in a signature: those in its components; in a functor nothing is searched
abbrev pub sig_step : Sig-F ℕ ℕ ℕ ℕ ℕ → ℕ
sig_step (Sig-F.Structure c) = c
sig_step (Sig-F.Functor p b) = 0
sig_step Sig-F.Hole = 0

-- in what an entry is: only a module has any
abbrev pub what_step : What-F ℕ ℕ ℕ ℕ ℕ → ℕ
what_step (What-F.Scheme n) = 0
what_step (What-F.Constructor d k) = 0
what_step (What-F.Exception c) = 0
what_step (What-F.Label d k) = 0
what_step (What-F.Type d) = 0
what_step (What-F.Module s) = s.value
what_step (What-F.ModuleType t) = 0

-- in components: those of all of them together
abbrev pub components_step : Components-F ℕ ℕ ℕ ℕ ℕ → ℕ
components_step c = sum_of (map (λ r. r.value) c.entries.items)

-- in an entry: itself, and those in what it is
abbrev pub entry_step : Entry-F ℕ ℕ ℕ ℕ ℕ → ℕ
entry_step e = suc e.what

-- in a template: none
abbrev pub template_step : Template-F ℕ ℕ ℕ ℕ ℕ → ℕ
template_step t = 0

-- in an entry, with itself
unfoldable pub entry_weight : Entry → ℕ
entry_weight e = fold-Entry ℕ ℕ ℕ ℕ ℕ sig_step what_step components_step entry_step template_step e

-- in several entries, with themselves
abbrev pub entries_weight : List Entry → ℕ
entries_weight [] = 0
entries_weight (e ∷ es) = entry_weight e + entries_weight es

-- what is left to search in a queue: one for each module, and its entries
abbrev pub queue_weight : List Scoped → ℕ
queue_weight [] = 0
queue_weight (s ∷ q) = suc (entries_weight s.1 + queue_weight q)

-- how a type is found: the names of the modules on the way to it, the innermost first, and its own
abbrev pub Found : Type 0
Found = List Name × Name

-- a type of a name behind a way, or what is found later where there is none
abbrev pub found_or : List Name → Option Name → Option Found → Option Found
found_or way None later = later
found_or way (Some n) later = Some (way, n)

-- how an origin is found in the first module in which it has a name, in so many steps
unfoldable pub search_in : ℕ → Path → List Scoped → Option Found
search_in zero o q = None
search_in (suc k) o [] = None
search_in (suc k) o (s ∷ q) = found_or s.0 (name_for o s.1) (search_in k o (q ++ modules_behind s.0 [] s.1))

-- no search has more steps than there are entries
unfoldable pub way_among : Path → List Scoped → Option Found
way_among o q = search_in (queue_weight q) o q

-- the names of a way, the outermost first, with a point behind each
abbrev pub way_text : List Name → List ℕ
way_text [] = []
way_text (m ∷ way) = way_text way ++ m ++ codes "."

-- the text of a name: behind its way, or, where nothing is found, the declared one, marked as hidden
abbrev pub named : Name → Option Found → List ℕ
named n None = n ++ codes "/hidden"
named n (Some f) = way_text f.0 ++ f.1

-- the name of an origin in an environment, where its declaration gives it a name
abbrev pub name_in : List Entry → Path → Name → List ℕ
name_in env o n = named n (way_among o (([], env) ∷ []))
