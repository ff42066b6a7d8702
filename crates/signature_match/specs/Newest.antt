-- The newest component of a name in a signature.
use Rattle.std.specs.Prelude.{List, [], ◌∷◌, Option, Some, None, if◌then◌else◌}
use Rattle.std.specs.Option.{option_or, option_and_then}
use Rattle.std.specs.Str.{bytes_eq}
use Rattle.text_terms.specs.Bytes.{str_bytes}
use Rattle.type_terms.specs.declared.types.NodeRef.{NodeRef}
use Rattle.signature_model.specs.Declarations.{Name}
use Rattle.signature_model.specs.Entries as rules
use Rattle.signature_model.specs.Lookups.{newest_by}
use Rattle.env_table.specs.declared.entries.Constructor.{Constructor}
use Rattle.env_table.specs.declared.entries.Declaration.{Declaration}
use Rattle.env_table.specs.declared.entries.Entry.{Entry}
use Rattle.env_table.specs.declared.entries.Sig.{Sig}
use Rattle.env_table.specs.declared.entries.Template.{Template}
use Rattle.env_table.specs.declared.entries.What.{out-What}
use Rattle.env_table.specs.declared.entries.Sig.TheOpen.{What-F}
use Rattle.env_table.specs.Views.{is_named, names_in, inside_sig}

-- the root of a value's scheme
abbrev pub value_by : {S W C E T : Type 0} → What-F S W C E T → Option NodeRef
value_by (What-F.Scheme n) = Some n
value_by _ = None

-- a type's declaration
abbrev pub type_by : {S W C E T : Type 0} → What-F S W C E T → Option Declaration
type_by (What-F.Type d) = Some d.value
type_by _ = None

-- an exception
abbrev pub exception_by : {S W C E T : Type 0} → What-F S W C E T → Option Constructor
exception_by (What-F.Exception c) = Some c.value
exception_by _ = None

-- a module's signature
abbrev pub module_by : {S W C E T : Type 0} → What-F S W C E T → Option S
module_by (What-F.Module s) = Some s.value
module_by _ = None

-- what a module type stands for
abbrev pub module_type_by : {S W C E T : Type 0} → What-F S W C E T → Option T
module_type_by (What-F.ModuleType t) = Some t.value
module_type_by _ = None

-- the same of a component
abbrev pub value_in : Entry → Option NodeRef
value_in e = value_by (out-What e.what)

abbrev pub type_in : Entry → Option Declaration
type_in e = type_by (out-What e.what)

abbrev pub exception_in : Entry → Option Constructor
exception_in e = exception_by (out-What e.what)

abbrev pub module_in : Entry → Option Sig
module_in e = module_by (out-What e.what)

abbrev pub module_type_in : Entry → Option Template
module_type_in e = module_type_by (out-What e.what)

-- the components of a signature, the newest first
abbrev pub components : Sig → List Entry
components s = names_in (inside_sig s)

-- the newest component of a kind and a name
abbrev pub newest_named : rules.Kind → Name → Sig → Option Entry
newest_named k n s = newest_by (is_named k n) (components s)

-- the newest value of a name
abbrev pub newest_value : Name → Sig → Option NodeRef
newest_value n s = option_and_then value_in (newest_named rules.value_kind n s)

-- the newest type of a name
abbrev pub newest_type : Name → Sig → Option Declaration
newest_type n s = option_and_then type_in (newest_named rules.type_kind n s)

-- the newest module of a name
abbrev pub newest_module : Name → Sig → Option Sig
newest_module n s = option_and_then module_in (newest_named rules.module_kind n s)

-- the newest module type of a name
abbrev pub newest_module_type : Name → Sig → Option Template
newest_module_type n s = option_and_then module_type_in (newest_named rules.module_type_kind n s)

-- an entry's exception of a name
abbrev pub exception_named : Name → Entry → Option Constructor
exception_named n e = if bytes_eq (str_bytes e.name) n then exception_in e else None

-- the first exception of a name among entries
abbrev pub first_exception : Name → List Entry → Option Constructor
first_exception n [] = None
first_exception n (e ∷ es) = option_or (exception_named n e) (first_exception n es)

-- the newest exception of a name
abbrev pub newest_exception : Name → Sig → Option Constructor
newest_exception n s = first_exception n (components s)
