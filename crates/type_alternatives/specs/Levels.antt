-- The search for the path to a part, level by level: what is in scope, then the modules in it, then those in these.
use Rattle.std.specs.Prelude.{ℕ, suc, ◌+◌, Bool, List, [], ◌∷◌, ◌++◌, map, codes, Option, Some, None, option_and_then, if◌then◌else◌}
use Rattle.text_terms.specs.Bytes.{str_bytes}
use Rattle.type_model.specs.Types.{Path}
use Rattle.signature_model.specs.Declarations.{Name}
use Rattle.signature_model.specs.Entries as rules
use Rattle.signature_model.specs.Lookups.{newest_by}
use Rattle.signature_model.specs.Records.{is_of_type}
use Rattle.env_table.specs.declared.entries.Entry.{Entry}
use Rattle.env_table.specs.Views.{is_named, names_of}
use Rattle.type_print.specs.Paths.{is_module, among, contents, entries_weight}
use Rattle.type_alternatives.specs.declared.reached.Inside.{Inside}
use Rattle.type_alternatives.specs.Parts.{part_at}

-- a module: its path with a point behind it, which is empty outside of all, and what is in scope in it
abbrev pub Searched : Type 0
Searched = List ℕ × List Entry

-- a module of the code that is searched
abbrev pub searched : Inside → Searched
searched i = (str_bytes i.path, names_of i.entries)

-- the modules of a level, in order
abbrev pub level_of : List Inside → List Searched
level_of is = map searched is

-- whether the newest of a kind and a name is the part of an origin at a place
abbrev pub finds : rules.Kind → Name → ℕ → Path → List Entry → Bool
finds kind name place o es = is_of_type o (option_and_then (part_at place) (newest_by (is_named kind name) es))

-- the path of the first module in which a test holds
abbrev pub first_path : (List Entry → Bool) → List Searched → Option (List ℕ)
first_path test [] = None
first_path test (s ∷ q) = if test s.1 then Some s.0 else first_path test q

-- the modules among entries that no newer one hides; `seen` are the names of newer ones
abbrev pub modules_among : List ℕ → List Name → List Entry → List Searched
modules_among path seen [] = []
modules_among path seen (e ∷ es) =
    if is_module e
    then (if among (str_bytes e.name) seen then modules_among path seen es else (path ++ str_bytes e.name ++ codes ".", contents e) ∷ modules_among path (str_bytes e.name ∷ seen) es)
    else modules_among path seen es

-- the modules in those of a level
abbrev pub next_level : List Searched → List Searched
next_level [] = []
next_level (s ∷ q) = modules_among s.0 [] s.1 ++ next_level q

-- how much is still to be searched
abbrev pub level_weight : List Searched → ℕ
level_weight [] = 0
level_weight (s ∷ q) = suc (entries_weight s.1 + level_weight q)
