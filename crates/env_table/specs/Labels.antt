-- Entries as labels of record types.
use Rattle.std.specs.Prelude.{Bool, ◌&&◌, List, map, Option, Some, None, option_map}
use Rattle.std.specs.List.{filter}
use Rattle.text_terms.specs.Bytes.{str_bytes}
use Rattle.type_terms.specs.Views.{path_of}
use Rattle.type_model.specs.Types as types
use Rattle.signature_model.specs.Declarations.{Name}
use Rattle.signature_model.specs.Entries as rules
use Rattle.signature_model.specs.Lookups.{ScopeOf, scope_by}
use Rattle.signature_model.specs.Records.{Written, Labelled, first_path, path_for, has_name, belongs_to}
use Rattle.env_table.specs.declared.entries.Kind.{Kind}
use Rattle.env_table.specs.declared.entries.Kind.TheVariants as kind
use Rattle.env_table.specs.declared.entries.What.{What}
use Rattle.env_table.specs.declared.entries.What.TheVariants as what
use Rattle.env_table.specs.declared.entries.Entry.{Entry}
use Rattle.env_table.specs.declared.entries.Path.{Path}
use Rattle.env_table.specs.Views.{is_named, inside}
use Rattle.env_table.specs.Index.{hash_of, bits_of, stands_at}

-- a path as it is written
abbrev pub written_of : Path → Written
written_of p = record { modules = map str_bytes p.modules.items; name = str_bytes p.last }

-- the origin of the record type that an entry's label belongs to
abbrev pub record_by_kind : Kind → What → Option types.Path
record_by_kind kind.Label (what.Label d k) = option_map path_of d.value.defines
record_by_kind _ _ = None

-- the same of an entry
abbrev pub record_of : Entry → Option types.Path
record_of e = record_by_kind e.kind e.what

-- an entry as a label
abbrev pub labelled : Labelled Entry
labelled = record { name_of = λ e. str_bytes e.name; record_type = record_of }

-- where labels without modules of their own are looked for, among these labels
abbrev pub front_of : List Entry → List Written → ScopeOf Entry
front_of env all = scope_by is_named inside env (first_path all)

-- where a label is looked for, among these labels
abbrev pub scope_for : List Entry → List Written → Written → ScopeOf Entry
scope_for env all l = scope_by is_named inside env (path_for all l)

-- whether an entry is a label, of the name where one is asked, whose record type has every label
abbrev pub has_all : List Entry → List Written → Option Name → Entry → Bool
has_all env all n e = has_name n (str_bytes e.name) && belongs_to labelled (scope_for env all) all (record_of e)

-- the entries of an environment among which the newest label is, of the name where one is asked: those with the hash of the name
abbrev pub candidates : Option Name → List Entry → List Entry
candidates None env = env
candidates (Some n) env = filter (stands_at (bits_of 16 (hash_of rules.label_kind n))) env
