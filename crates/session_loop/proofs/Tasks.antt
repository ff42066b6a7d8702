-- The outcome of a run, by what the words ask for.
use Rattle.std.proofs.Common.{◌≡◌, ℕ, List, Option, Some, None, true, is_some, refl, subst}
use Rattle.syntax_tree.specs.Tallies.{Tallies}
use Rattle.session_loop.specs.MadeRuns.{MadeOutcome}
use Rattle.session_loop.specs.Outcomes.{Outcome, RunOutcome}
use Rattle.session_loop.specs.declared.service.Status.{Status}
use Rattle.session_loop.specs.declared.service.Status.TheVariants.{BadWords, NoMemory}

-- of a session
pub session_outcome : (asked : Option ℕ) (status : Status) (left left' held held' : Option (List ℕ)) (before after : Tallies) → None ≡ asked
    → Outcome status left left' held held' → RunOutcome asked status left left' held held' before after
session_outcome asked status left left' held held' before after none h = subst (λ (o : Option ℕ). RunOutcome o status left left' held held' before after) none h

-- of a made run
pub made_outcome : (asked : Option ℕ) (n : ℕ) (status : Status) (left held held' : Option (List ℕ)) (before after : Tallies) → Some n ≡ asked
    → MadeOutcome status n held held' before after → RunOutcome asked status left left held held' before after
made_outcome asked n status left held held' before after some h = subst (λ (o : Option ℕ). RunOutcome o status left left held held' before after) some (refl, h)

-- where words are refused nothing is done
pub refused_outcome : (asked : Option ℕ) (left held : Option (List ℕ)) (before after : Tallies) → RunOutcome asked BadWords left left held held before after
refused_outcome None left held before after = (refl, refl)
refused_outcome (Some n) left held before after = (refl, refl)

-- without memory for them neither
pub no_memory_outcome : (asked : Option ℕ) (left held : Option (List ℕ)) (before after : Tallies) → RunOutcome asked NoMemory left left held held before after
no_memory_outcome None left held before after = (refl, refl)
no_memory_outcome (Some n) left held before after = (refl, refl)

-- a session asks for no items
pub no_items : {X : Type 0} (asked : Option ℕ) → None ≡ asked → is_some asked ≡ true → X
no_items None none some = cc
no_items (Some n) none some = cc
