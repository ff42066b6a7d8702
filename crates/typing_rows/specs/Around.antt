-- The names among which a type expression of a declaration stands.
use Rattle.std.specs.Prelude.{◌≡◌, ℕ, List, Option}
use Rattle.type_model.specs.Types.{Typ}
use Rattle.type_model.specs.Schemes.{Scheme}
use Rattle.signature_model.specs.Declarations as rules
use Rattle.signature_model.specs.Declarations.{type_of}
use Rattle.signature_model.specs.Entries.{Environment}
use Rattle.env_table.specs.declared.entries.Constructor.{Constructor}
use Rattle.env_table.specs.declared.entries.Declaration.{Declaration}
use Rattle.env_table.specs.declared.entries.Entry.{Entry}
use Rattle.typing_conditions.specs.Environments.{EnvAs}

-- a declaration of the code takes as many parameters as one of the definitions, which has the type by which the code's is known
abbrev pub TypeAs : (Declaration → Typ) → Declaration → rules.Declaration → Type 0
TypeAs named d e = (e.arity ≡ d.arity) × (type_of e ≡ named d)

-- The names of the code stand for those of the definitions, as far as types are found by them: of what a type tells of its values nothing is said.
abbrev pub TypesAs : (Declaration → Typ) → List Entry → Environment → Type 0
TypesAs named env E = EnvAs (λ (r : ℕ) (sc : Scheme). Unit {0}) (TypeAs named) (λ (x : Constructor) (o : Option Typ). Unit {0}) env E
