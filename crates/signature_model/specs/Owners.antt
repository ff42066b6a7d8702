-- The declaration that makes an origin, wherever it stands (OCaml manual, 11.8.1, for the definitions that make a new type).
use Rattle.std.specs.Prelude.{[], ◌∷◌, Option, Some, None, if◌then◌else◌}
use Rattle.std.specs.Option.{option_or}
use Rattle.type_model.specs.Types.{Path}
use Rattle.type_model.specs.Origins.{same_path}
use Rattle.signature_model.specs.Declarations.{Definition, Own, Is, Declaration}
use Rattle.signature_model.specs.Signatures.{Signature, Hole, Structure, Functor, Components, Done, Component, Meaning, Value, TypeName, Exception, Module, ModuleType}
use Rattle.signature_model.specs.Entries.{Referent, a_value, a_constructor, an_exception, a_label, a_type, a_module, a_module_type, Environment}

-- a declaration, where it is what makes an origin
abbrev pub owns : Path → Definition → Declaration → Option Declaration
owns o (Own p) d = if same_path o p then Some d else None
owns o (Is t) d = None

-- the declaration that makes an origin among the components of a signature, those of its modules included
abbrev mutual
  pub owner_in : Path → Signature → Option Declaration
  owner_in o Hole = None
  owner_in o (Structure cs) = owner_among o cs
  owner_in o (Functor pm p bm b) = None

  -- the declaration that makes it among several components
  pub owner_among : Path → Components → Option Declaration
  owner_among o Done = None
  owner_among o (Component n at m cs) = option_or (owner_by o m) (owner_among o cs)

  -- the declaration that makes it in one component, the components of a module included
  pub owner_by : Path → Meaning → Option Declaration
  owner_by o (Value s) = None
  owner_by o (TypeName d) = owns o d.definition d
  owner_by o (Exception x) = None
  owner_by o (Module s) = owner_in o s
  owner_by o (ModuleType made s) = None

-- the declaration that makes an origin in what a name stands for
abbrev pub owner_behind : Path → Referent → Option Declaration
owner_behind o (a_value s) = None
owner_behind o (a_constructor d k) = owns o d.definition d
owner_behind o (an_exception x) = None
owner_behind o (a_label d l) = owns o d.definition d
owner_behind o (a_type d) = owns o d.definition d
owner_behind o (a_module s) = owner_in o s
owner_behind o (a_module_type t) = None

-- the declaration that makes an origin among the entries of an environment, shadowed ones included
abbrev pub owner_of : Environment → Path → Option Declaration
owner_of [] o = None
owner_of (e ∷ env) o = option_or (owner_behind o e.stands_for) (owner_of env o)
