-- The abstract types that a template makes here.
use Rattle.std.specs.Prelude.{ℕ, ◌==◌, List, [], ◌∷◌, Option, Some, None, if◌then◌else◌}
use Rattle.std.specs.Option.{option_or}
use Rattle.type_model.specs.Types.{Path}
use Rattle.type_terms.specs.Views.{path_of}
use Rattle.type_terms.specs.declared.types.Origin.{Origin}
use Rattle.signature_model.specs.Changes.{among}
use Rattle.signature_model.specs.Declarations.{Name}
use Rattle.signature_model.specs.Entries.{type_kind}
use Rattle.env_table.specs.declared.entries.Shape.{Shape}
use Rattle.env_table.specs.declared.entries.Shape.TheVariants as shape
use Rattle.env_table.specs.declared.entries.Declaration.{Declaration}
use Rattle.env_table.specs.declared.entries.What.{out-What}
use Rattle.env_table.specs.declared.entries.Entry.{Entry}
use Rattle.env_table.specs.declared.entries.Sig.TheOpen.{What-F}
use Rattle.env_table.specs.declared.entries.Template.{Template}
use Rattle.env_table.specs.Views.{is_named, names_in, inside_sig}
use Rattle.type_reading.specs.Copying.{paths_of}

-- an origin that is one of those made
abbrev pub made_here : List Path → Option Origin → Option Path
made_here made None = None
made_here made (Some o) = if among (path_of o) made then Some (path_of o) else None

-- the origin that is made here, of a declaration that tells nothing of its values
abbrev pub abstract_origin : List Path → Option Origin → Shape → Option Path
abstract_origin made o shape.Opaque = made_here made o
abstract_origin made o (shape.Variant ks) = None
abstract_origin made o (shape.Labels ls) = None

-- the same of a declaration with this number of parameters
abbrev pub abstract_declared : List Path → ℕ → Declaration → Option Path
abstract_declared made arity d = if d.arity == arity then abstract_origin made d.origin d.shape else None

-- the same of a type
abbrev pub abstract_what : {S W C E T : Type 0} → List Path → ℕ → What-F S W C E T → Option Path
abstract_what made arity (What-F.Scheme n) = None
abstract_what made arity (What-F.Constructor d k) = None
abstract_what made arity (What-F.Exception c) = None
abstract_what made arity (What-F.Label d k) = None
abstract_what made arity (What-F.Type d) = abstract_declared made arity d.value
abstract_what made arity (What-F.Module s) = None
abstract_what made arity (What-F.ModuleType t) = None

-- the same of an entry of this name
abbrev pub abstract_of : List Path → Name → ℕ → Entry → Option Path
abstract_of made n arity e = if is_named type_kind n e then abstract_what made arity (out-What e.what) else None

-- the newest abstract type of a name and a number of parameters among entries, the newest first
abbrev pub abstract_in : List Path → Name → ℕ → List Entry → Option Path
abstract_in made n arity [] = None
abstract_in made n arity (e ∷ es) = option_or (abstract_of made n arity e) (abstract_in made n arity es)

-- the same of a template; in a hole and in a functor there is none
abbrev pub abstract_named : Template → Name → ℕ → Option Path
abstract_named t n arity = abstract_in (paths_of t.made.items) n arity (names_in (inside_sig t.sig.value))
