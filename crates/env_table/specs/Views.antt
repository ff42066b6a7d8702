-- What an environment of the code is: the list of its entries, and what each is for the rules of names.
use Rattle.std.specs.Prelude.{Bool, ◌&&◌, List, [], ◌∷◌, map, reverse, Option, Some, None, option_map}
use Rattle.std.specs.Str.{bytes_eq}
use Rattle.std.specs.declared.rc.Rc.{Rc}
use Rattle.std.specs.declared.alloc.Global.{Global}
use Rattle.text_terms.specs.Bytes.{str_bytes}
use Rattle.type_terms.specs.Views.{path_of}
use Rattle.type_model.specs.Types.{Path}
use Rattle.signature_model.specs.Declarations.{Name}
use Rattle.signature_model.specs.Entries as rules
use Rattle.signature_model.specs.Lookups.{same_kind, FoundAmong, an_entry, a_hole, nothing, ScopeOf, known, unknown_scope, no_scope, newest_by}
use Rattle.env_table.specs.declared.entries.Kind.{Kind}
use Rattle.env_table.specs.declared.entries.Kind.TheVariants as kind
use Rattle.env_table.specs.declared.entries.What.{What, out-What}
use Rattle.env_table.specs.declared.entries.Entry.{Entry}
use Rattle.env_table.specs.declared.entries.Sig.{Sig, out-Sig}
use Rattle.env_table.specs.declared.entries.Sig.TheOpen.{Sig-F, What-F}
use Rattle.env_table.specs.declared.entries.Components.{Components, out-Components}
use Rattle.env_table.specs.declared.entries.Found.{Found}
use Rattle.env_table.specs.declared.entries.Found.TheVariants as found
use Rattle.env_table.specs.declared.walk.Rest.{Rest}
use Rattle.env_table.specs.declared.walk.Rest.TheVariants as rest
use Rattle.env_table.specs.declared.walk.Entries.{Entries}
use Rattle.env_table.specs.declared.links.Link.{Link, fold-Link}
use Rattle.env_table.specs.declared.links.Link.TheOpen.{Link-F}

-- a list behind a shared pointer
abbrev pub shared : {A : Type 0} → Option (Rc (List A) Global) → List A
shared None = []
shared (Some r) = r.value

-- an entry in front of those before it
abbrev pub link_step : Link-F (List Entry) → List Entry
link_step l = l.entry.value ∷ shared l.before

-- the entries from a link on, the newest first
abbrev pub link_view : Link → List Entry
link_view = fold-Link (List Entry) link_step

-- the entries of a chain, the newest first
abbrev pub links_view : Option (Rc Link Global) → List Entry
links_view None = []
links_view (Some r) = link_view r.value

-- a kind of the code, as the rules have it
abbrev pub kind_of : Kind → rules.Kind
kind_of kind.Value = rules.value_kind
kind_of kind.Constructor = rules.constructor_kind
kind_of kind.Label = rules.label_kind
kind_of kind.TypeName = rules.type_kind
kind_of kind.Module = rules.module_kind
kind_of kind.ModuleType = rules.module_type_kind

-- whether an entry has this kind and this name
abbrev pub is_named : rules.Kind → Name → Entry → Bool
is_named k n e = same_kind k (kind_of e.kind) && bytes_eq n (str_bytes e.name)

-- components, the newest first
abbrev pub newest_first : List (Rc Entry Global) → List Entry
newest_first es = reverse (map (λ r. r.value) es)

-- what is in scope in a module: in one that isn't known anything may be, in a functor nothing is
abbrev pub inside_opened : {T : Type 0} → Sig-F Sig What Components Entry T → ScopeOf Entry
inside_opened (Sig-F.Structure c) = known (newest_first (out-Components c).entries.items)
inside_opened (Sig-F.Functor p b) = known []
inside_opened Sig-F.Hole = unknown_scope

-- what is in scope in a module of this signature
abbrev pub inside_sig : Sig → ScopeOf Entry
inside_sig s = inside_opened (out-Sig s)

-- what is in scope in an entry
abbrev pub what_opened : {C E T : Type 0} → What-F Sig What C E T → ScopeOf Entry
what_opened (What-F.Scheme n) = no_scope
what_opened (What-F.Constructor d k) = no_scope
what_opened (What-F.Exception c) = no_scope
what_opened (What-F.Label d k) = no_scope
what_opened (What-F.Type d) = no_scope
what_opened (What-F.Module s) = inside_sig s.value
what_opened (What-F.ModuleType t) = no_scope

-- what is in scope inside an entry; only in a module anything may be
abbrev pub inside : Entry → ScopeOf Entry
inside e = what_opened (out-What e.what)

-- the origin that a declaration makes
abbrev pub made_by : {S W C E T : Type 0} → What-F S W C E T → Option Path
made_by (What-F.Scheme n) = None
made_by (What-F.Constructor d k) = None
made_by (What-F.Exception c) = None
made_by (What-F.Label d k) = None
made_by (What-F.Type d) = option_map path_of d.value.origin
made_by (What-F.Module s) = None
made_by (What-F.ModuleType t) = None

-- the origin that an entry makes: that of its declaration, where it is a type's
abbrev pub makes : Entry → Option Path
makes e = made_by (out-What e.what)

-- what is in scope in the newest module of a name
abbrev pub module_scope : Name → List Entry → ScopeOf Entry
module_scope m env = elim (newest_by (is_named rules.module_kind m) env) [ None ↦ no_scope | Some e ↦ inside e ]

-- the names that a scope is known to have
abbrev pub names_in : ScopeOf Entry → List Entry
names_in (known es) = es
names_in unknown_scope = []
names_in no_scope = []

-- what a name comes to, as the rules tell it
abbrev pub found_view : Found → FoundAmong Entry
found_view (found.Entry e) = an_entry e.now.value
found_view found.Hole = a_hole
found_view found.Nothing = nothing

-- the entries that are still to be seen
abbrev pub rest_view : Rest → List Entry
rest_view rest.Nothing = []
rest_view (rest.Link l) = link_view l.now
rest_view (rest.Components es) = newest_first es.now

-- the entries that a walk has still before it
abbrev pub names_of : Entries → List Entry
names_of e = rest_view e.rest
