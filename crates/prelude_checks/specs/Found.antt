-- Types of a text behind the prelude.
use Rattle.std.specs.Prelude.{ℕ, List, [], ◌∷◌}
use Rattle.type_model.specs.Types.{Typ, Var, Arrow, Con, Nil, Cons}
use Rattle.typing_model.specs.BuiltIns.{list_type}
use Rattle.model_checks.specs.Typings.{first}
use Rattle.model_checks.specs.Open.{of_letter}

-- t ref, which is made at the second declaration of the prelude
abbrev pub ref_type : Typ → Typ
ref_type t = Con (8 ∷ []) (Cons t Nil)

-- let r = ref []: r, the application, ref, and [], with a variable for what [] is a list of
abbrev pub reference_open : List (ℕ × Typ)
reference_open =
    (first 2, ref_type (list_type (Var (of_letter (first 5) 0)))) ∷ (first 3, ref_type (list_type (Var (of_letter (first 5) 0)))) ∷
    (first 4, Arrow (list_type (Var (of_letter (first 5) 0))) (ref_type (list_type (Var (of_letter (first 5) 0))))) ∷ (first 5, list_type (Var (of_letter (first 5) 0))) ∷ []
