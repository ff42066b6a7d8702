-- Calls one after another, where a node has a type in the end.
use Rattle.std.proofs.Common.{◌≡◌, ◌∙◌, ◌++◌, ℕ, [], sym, append-nil}
use Rattle.type_model.specs.Types.{Typ}
use Rattle.typing_model.specs.Contexts.{Choice, Context}
use Rattle.typing_conditions.specs.Sights.{Sight, Letters}
use Rattle.typing_conditions.specs.Frames.{Frame}
use Rattle.typing_conditions.specs.Carrying.{Asks, Scope, Carried, CarriedTo}
use Rattle.typing_conditions.proofs.Carried.{carried_trans, carried_as}
use Rattle.typing_conditions.proofs.Meaning.{means_on}

-- after other conditions
pub then_to : {F : Frame} {scope : Scope} {asks further : Asks} {a b d : Sight} {G H K : Letters} {type : Choice → Typ} {m : ℕ} → Carried F scope asks a G b H → CarriedTo F scope further b H d K type m →
    CarriedTo F scope (λ c. asks c ++ further c) a G d K type m
then_to p q = record { carried = carried_trans p q.carried; means = q.means }

-- after other conditions, where nothing more is asked
pub then_made : {F : Frame} {scope : Scope} {asks : Asks} {a b d : Sight} {G H K : Letters} {type : Choice → Typ} {m : ℕ} → Carried F scope asks a G b H → CarriedTo F scope (λ c. []) b H d K type m → CarriedTo F scope asks a G d K type m
then_made {asks = asks} p q = record { carried = carried_as (λ c. append-nil (asks c)) (carried_trans p q.carried); means = q.means }

-- before other conditions
pub to_then : {F : Frame} {scope : Scope} {asks further : Asks} {a b d : Sight} {G H K : Letters} {type : Choice → Typ} {m : ℕ} → CarriedTo F scope asks a G b H type m → Carried F scope further b H d K →
    CarriedTo F scope (λ c. asks c ++ further c) a G d K type m
to_then p q = record { carried = carried_trans p.carried q; means = means_on q.stays p.means }

-- the conditions, and the type, may be written in another way
pub to_as : {F : Frame} {scope : Scope} {asks others : Asks} {a b : Sight} {G H : Letters} {type other : Choice → Typ} {m : ℕ} → ((c : Context) → asks c ≡ others c) → ((ch : Choice) → type ch ≡ other ch) → CarriedTo F scope asks a G b H type m →
    CarriedTo F scope others a G b H other m
to_as e f p = record { carried = carried_as e p.carried; means = record { open_node = p.means.open_node; is = λ V ch loose g. sym (f ch) ∙ p.means.is V ch loose g } }
