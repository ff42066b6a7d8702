-- No unknown type stands in the types of the prelude's type expressions, and each demand of its conditions is kept.
use Rattle.std.proofs.Common.{◌≡◌, ◌==◌, ℕ, Bool, true, false, ◌&&◌, List, [], ◌∷◌, if◌then◌else◌, refl}
use Rattle.type_model.specs.Types.{Typ}
use Rattle.signature_model.specs.Matching.{IsKnown}
use Rattle.typing_model.specs.Demands.{equal, test, agrees, matches, closes, Condition, same, instance, made, known, demand, treated}
use Rattle.typing_model.specs.First.{every_site}
use Rattle.typing_conditions.specs.Judging.{judgements}
use Rattle.signature_typing.specs.Specifications.{AreSure}
use Rattle.first_laws.proofs.Known.{is_known_type, type_known}
use Rattle.prelude_checks.proofs.Checked.{both, one_type, all_hold}
use Rattle.prelude_checks.proofs.Chosen.{type_in, chosen, choice}

-- whether that is so of all types of a table
abbrev is_known_table : List (ℕ × Typ) → Bool
is_known_table [] = true
is_known_table ((k, t) ∷ rest) = is_known_type t && is_known_table rest

table_known : (rest : List (ℕ × Typ)) → is_known_table rest ≡ true → (n : ℕ) → IsKnown (type_in rest n)
table_known [] h n = tt
table_known ((k, t) ∷ rest) h n =
    let r = both (is_known_type t) (is_known_table rest) h in
    by (n == k) (type_known t r.0) (table_known rest r.1 n)
  where
    by : (b : Bool) → IsKnown t → IsKnown (type_in rest n) → IsKnown (if b then t else type_in rest n)
    by true here later = here
    by false here later = later

-- so it is of the type at each number
pub choice_known : (n : ℕ) → IsKnown (choice.type_at n)
choice_known = table_known chosen refl

-- Where conditions are tests and equations that hold, their demands are kept, and none is that a body closes.
pub sure : (cs : List Condition) → all_hold cs ≡ true → AreSure (judgements every_site cs)
sure [] h = tt
sure (same t u ∷ cs) h = sure cs (both (one_type t u) (all_hold cs) h).1
sure (instance s t ∷ cs) h = absurd (cc)
sure (made n t ∷ cs) h = absurd (cc)
sure (known t ∷ cs) h = absurd (cc)
sure (demand s p (equal t u) ∷ cs) h = (refl, refl, sure cs (both (one_type t u) (all_hold cs) h).1)
sure (demand s p (test c b) ∷ cs) h = (refl, refl, sure cs (both b (all_hold cs) h).1)
sure (demand s p (agrees c n x y) ∷ cs) h = absurd (cc)
sure (demand s p (matches x y) ∷ cs) h = absurd (cc)
sure (demand s p (closes e x) ∷ cs) h = absurd (cc)
sure (treated n e ∷ cs) h = sure cs h
