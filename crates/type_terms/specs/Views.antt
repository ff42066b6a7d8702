-- What a type of the code means.
use Rattle.std.specs.Prelude.{◌++◌, [], ◌∷◌, length, map, nat_lt, take, Option}
use Rattle.text_terms.specs.Bytes.{str_bytes}
use Rattle.type_model.specs.Types.{Path, Typ, types_of}
use Rattle.type_model.specs.Types.{Typ as plain}
use Rattle.type_terms.specs.declared.types.Ty.{Ty, fold-Ty}
use Rattle.type_terms.specs.declared.types.Ty.TheOpen.{Ty-F}
use Rattle.type_model.specs.Origins.{Replacements, replacement_for}
use Rattle.type_model.specs.Schemes.{Scheme}
use Rattle.type_terms.specs.declared.types.Origin.{Origin}
use Rattle.type_terms.specs.declared.types.OriginMap.{OriginMap}
use Rattle.type_terms.specs.declared.types.Scheme.{Scheme as CodeScheme}

-- an origin as its path alone
abbrev pub path_of : Origin → Path
path_of o = o.path.items

-- an origin as its path and its name: how long the path is, the path, the name
abbrev pub spelling_of : Origin → Path
spelling_of o = length o.path.items ∷ (o.path.items ++ str_bytes o.name)

-- the path in a spelling
abbrev pub path_in : Path → Path
path_in [] = []
path_in (n ∷ spelling) = take n spelling

-- a type whose parts are read already; `label` gives the path of each origin
abbrev pub type_step : (Origin → Path) → Ty-F Typ → Typ
type_step label (Ty-F.Var v) = plain.Var v
type_step label (Ty-F.Arrow a b) = plain.Arrow a.value b.value
type_step label (Ty-F.Tuple ts) = plain.Tuple (types_of ts.items)
type_step label (Ty-F.Con o ts) = plain.Con (label o) (types_of ts.items)

-- a type of the code, with the paths that `label` gives its origins
abbrev pub type_by : (Origin → Path) → Ty → Typ
type_by label = fold-Ty Typ (type_step label)

-- the plain type; an origin is its path
abbrev pub type_of : Ty → Typ
type_of = type_by path_of

-- the plain type with the names of its origins
abbrev pub spelled : Ty → Typ
spelled = type_by spelling_of

-- the types in place of the plain origins
abbrev pub replacements_by : (Origin → Path) → OriginMap → Replacements
replacements_by label m = map (λ p. (p.0.path.items, type_by label p.1)) m.pairs.items

-- the same, where each origin has its own path
abbrev pub replacements_of : OriginMap → Replacements
replacements_of = replacements_by path_of

-- what a map has in place of an origin that is spelled with its name
abbrev pub spelled_for : OriginMap → Path → Option Typ
spelled_for m spelling = replacement_for (path_in spelling) (replacements_by spelling_of m)

-- the plain scheme
abbrev pub scheme_of : CodeScheme → Scheme
scheme_of s = record { body = type_of s.body; bound = λ v. nat_lt v s.bound }
