-- The types of the first environment.
use Rattle.std.specs.Prelude.{List, [], ◌∷◌, codes}
use Rattle.type_model.specs.Types.{Path}
use Rattle.signature_model.specs.Declarations.{Name}
use Rattle.typing_model.specs.BuiltIns.{built_in_origin}

-- each by its name, with its origin: the built-in ones, and those that the prelude declares
abbrev pub first_types : List (Name × Path)
first_types =
    (codes "int", built_in_origin 0) ∷ (codes "char", built_in_origin 1) ∷ (codes "string", built_in_origin 2) ∷ (codes "float", built_in_origin 3) ∷
    (codes "unit", built_in_origin 4) ∷ (codes "bool", built_in_origin 5) ∷ (codes "exn", built_in_origin 6) ∷ (codes "list", built_in_origin 7) ∷
    (codes "option", 1 ∷ []) ∷ (codes "ref", 8 ∷ []) ∷ (codes "result", 14 ∷ []) ∷ []
