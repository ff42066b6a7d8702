-- Environments with values in front.
use Rattle.std.proofs.Common.{◌≡◌, ◌∙◌, [], ◌∷◌, ◌++◌, List, refl, ap}
use Rattle.type_model.specs.Types.{Typ}
use Rattle.type_model.specs.Schemes.{Scheme}
use Rattle.signature_model.specs.Declarations.{in_text}
use Rattle.signature_model.specs.Entries.{Environment, entry, a_value}
use Rattle.typing_model.specs.Contexts.{Context, Bound, entries_with}
use Rattle.weak_variables.specs.Over.{AreValues, IsOver}

-- an environment is itself with nothing in front
pub over_itself : {env : Environment} → IsOver env env
over_itself = record { values = []; are_values = tt; is = refl }

-- values in front of values
values_all : (xs ys : Environment) → AreValues xs → AreValues ys → AreValues (xs ++ ys)
values_all [] ys h g = g
values_all (x ∷ xs) ys h g = (h.0, values_all xs ys h.1 g)

-- what is in front of both
in_front : (xs ys zs : Environment) → xs ++ (ys ++ zs) ≡ (xs ++ ys) ++ zs
in_front [] ys zs = refl
in_front (x ∷ xs) ys zs = ap (λ es. x ∷ es) (in_front xs ys zs)

-- values in front of one that has values in front
pub over_values : {env E : Environment} (values : Environment) → AreValues values → IsOver env E → IsOver env (values ++ E)
over_values {env} values are h = record { values = values ++ h.values; are_values = values_all values h.values are h.are_values; is = ap (λ es. values ++ es) h.is ∙ in_front values h.values env }

-- names with schemes are values
pub values_with : (scheme : Typ → Scheme) (c : Context) (bs : List Bound) (E : Environment) → AreValues E → AreValues (entries_with scheme c bs E)
values_with scheme c [] E h = h
values_with scheme c (b ∷ bs) E h = values_with scheme c bs (entry b.name (in_text b.place) (a_value (scheme (b.has_type c))) ∷ E) ((scheme (b.has_type c), refl), h)
