-- The newest component of a kind and a name (OCaml manual, 11.3 for the kinds of names, and 11.10.2 for signatures).
use Rattle.std.specs.Prelude.{Bool, Option, Some, None, if◌then◌else◌}
use Rattle.std.specs.Option.{option_or}
use Rattle.std.specs.Str.{bytes_eq}
use Rattle.type_model.specs.Types.{Typ}
use Rattle.type_model.specs.Schemes.{Scheme}
use Rattle.signature_model.specs.Declarations.{Name, Declaration}
use Rattle.signature_model.specs.Signatures.{Signature, Components, Done, Component, Meaning, Value, TypeName, Exception, Module, ModuleType, Template, template}

-- whether two names are the same
abbrev pub same_name : Name → Name → Bool
same_name = bytes_eq

-- the scheme of a component that is a value
abbrev pub as_value : Meaning → Option Scheme
as_value (Value s) = Some s
as_value (TypeName d) = None
as_value (Exception o) = None
as_value (Module s) = None
as_value (ModuleType made s) = None

-- the declaration of a component that is a type
abbrev pub as_type : Meaning → Option Declaration
as_type (Value s) = None
as_type (TypeName d) = Some d
as_type (Exception o) = None
as_type (Module s) = None
as_type (ModuleType made s) = None

-- the argument, which may be absent, of a component that is an exception
abbrev pub as_exception : Meaning → Option (Option Typ)
as_exception (Value s) = None
as_exception (TypeName d) = None
as_exception (Exception o) = Some o
as_exception (Module s) = None
as_exception (ModuleType made s) = None

-- the signature of a component that is a module
abbrev pub as_module : Meaning → Option Signature
as_module (Value s) = None
as_module (TypeName d) = None
as_module (Exception o) = None
as_module (Module s) = Some s
as_module (ModuleType made s) = None

-- the template of a component that is a module type
abbrev pub as_module_type : Meaning → Option Template
as_module_type (Value s) = None
as_module_type (TypeName d) = None
as_module_type (Exception o) = None
as_module_type (Module s) = None
as_module_type (ModuleType made s) = Some (template made s)

-- of the components of a name that are of the kind that `sort` tells, the last
abbrev pub newest : {A : Type 0} → (Meaning → Option A) → Name → Components → Option A
newest sort n Done = None
newest sort n (Component m at what cs) = option_or (newest sort n cs) (if same_name n m then sort what else None)
