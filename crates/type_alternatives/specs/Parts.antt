-- The parts of a declaration, its constructors or its labels, and the paths by which they are written.
use Rattle.std.specs.Prelude.{◌≡◌, ◌==◌, ℕ, List, Option, Some, None, option_map, if◌then◌else◌}
use Rattle.std.specs.Str.{bytes_eq}
use Rattle.text_terms.specs.Bytes.{str_bytes}
use Rattle.type_model.specs.Types.{Path}
use Rattle.type_terms.specs.Views.{path_of}
use Rattle.signature_model.specs.Declarations.{Name}
use Rattle.signature_model.specs.Entries as rules
use Rattle.type_print_model.specs.Paths.{Naming, NamePath, Reaches, IsShown, spelled}
use Rattle.env_table.specs.declared.entries.What.{out-What}
use Rattle.env_table.specs.declared.entries.Sig.TheOpen.{What-F}
use Rattle.env_table.specs.declared.entries.Entry.{Entry}
use Rattle.env_table.specs.Views.{is_named, inside}

-- the origin of the declaration of which an entry is the part at a place, where it is one
abbrev pub part_by : {S W C E T : Type 0} → ℕ → What-F S W C E T → Option Path
part_by place (What-F.Scheme n) = None
part_by place (What-F.Constructor d k) = if k == place then option_map path_of d.value.origin else None
part_by place (What-F.Exception c) = None
part_by place (What-F.Label d k) = if k == place then option_map path_of d.value.origin else None
part_by place (What-F.Type d) = None
part_by place (What-F.Module s) = None
part_by place (What-F.ModuleType t) = None

-- the same of an entry
abbrev pub part_at : ℕ → Entry → Option Path
part_at place e = part_by place (out-What e.what)

-- the same for entries of this name alone
abbrev pub part_of : Name → ℕ → Entry → Option Path
part_of name place e = if bytes_eq name (str_bytes e.name) then part_at place e else None

-- the kind that is looked for instead: parts in place of types
abbrev pub in_place_of_types : rules.Kind → rules.Kind → rules.Kind
in_place_of_types parts rules.value_kind = rules.value_kind
in_place_of_types parts rules.constructor_kind = rules.constructor_kind
in_place_of_types parts rules.label_kind = rules.label_kind
in_place_of_types parts rules.type_kind = parts
in_place_of_types parts rules.module_kind = rules.module_kind
in_place_of_types parts rules.module_type_kind = rules.module_type_kind

-- the entries of an environment, for the paths to the part of this name and place: such parts are named as types are elsewhere
abbrev pub part_naming : rules.Kind → Name → ℕ → Naming Entry
part_naming parts name place = record { is_named = λ k. is_named (in_place_of_types parts k); inside = inside; makes = part_of name place }

-- how a part of an origin is written: by the shortest path that reaches it, and of these the newest; in no way where none does
abbrev pub IsWritten : Naming Entry → List Entry → Path → Option (List ℕ) → Type 0
IsWritten N env o None = (p : NamePath) → Reaches N env o p → ⊥
IsWritten N env o (Some text) = (p : NamePath) × IsShown N env o p × (text ≡ spelled p)
