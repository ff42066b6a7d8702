-- Templates: a signature made anew at a node, and `with` (OCaml manual, 11.10.4).
use Rattle.std.specs.Prelude.{◌==◌, ℕ, List, [], ◌∷◌, map, Option, Some, None, if◌then◌else◌}
use Rattle.std.specs.Option.{option_or}
use Rattle.type_model.specs.Types.{Path, Typ}
use Rattle.type_model.specs.Origins.{same_path}
use Rattle.signature_model.specs.Declarations.{Name, Definition, Own, Is, Shape, Opaque, Variant, Labels}
use Rattle.signature_model.specs.Signatures.{Signature, Components, Done, Component, Meaning, Value, TypeName, Exception, Module, ModuleType, Template, template, components_of}
use Rattle.signature_model.specs.Changes.{among, change_signature, in_front, Realisation, realised}
use Rattle.signature_model.specs.Components.{same_name}

-- the signature whose origins are made anew at the node of this number
abbrev pub made_at : Template → ℕ → Signature
made_at t u = change_signature (in_front t.made u) t.signature

-- the origins that are made there
abbrev pub origins_at : List Path → ℕ → List Path
origins_at made u = map (λ o. u ∷ o) made

-- the origin of an abstract type that is made here
abbrev pub abstract_origin : List Path → Definition → Shape → Option Path
abstract_origin made (Own o) Opaque = if among o made then Some o else None
abstract_origin made (Own o) (Variant ks) = None
abstract_origin made (Own o) (Labels ls) = None
abstract_origin made (Is t) shape = None

-- the same of a component with this number of parameters
abbrev pub abstract_of : List Path → ℕ → Meaning → Option Path
abstract_of made arity (Value s) = None
abstract_of made arity (TypeName d) = if d.arity == arity then abstract_origin made d.definition d.shape else None
abstract_of made arity (Exception o) = None
abstract_of made arity (Module s) = None
abstract_of made arity (ModuleType m s) = None

-- the newest abstract type of a name and a number of parameters
abbrev pub abstract_in : List Path → Name → ℕ → Components → Option Path
abstract_in made n arity Done = None
abstract_in made n arity (Component m at what cs) = option_or (abstract_in made n arity cs) (if same_name n m then abstract_of made arity what else None)

-- a type for one origin
abbrev pub only : Path → Typ → Realisation
only o t p = if same_path p o then Some t else None

-- paths but one
abbrev pub without : Path → List Path → List Path
without o [] = []
without o (p ∷ ps) = if same_path p o then without o ps else p ∷ without o ps

-- a template that no longer makes an origin, which is this type
abbrev pub with_origin : Template → Typ → Option Path → Option Template
with_origin t x None = None
with_origin t x (Some o) = Some (template (without o t.made) (change_signature (realised (only o x)) t.signature))

-- the template in which the newest abstract type of a name and a number of parameters is this type; none exactly where there is no such type
abbrev pub with_type : Template → Name → ℕ → Typ → Option Template
with_type t n arity x = with_origin t x (abstract_in t.made n arity (components_of t.signature))
