-- What a call that makes one demand does.
use Rattle.std.specs.Prelude.{◌≡◌, ℕ, Bool, true, false, List, [], ◌∷◌, Option, Some, None}
use Rattle.token_model.specs.Kinds.{Tok}
use Rattle.text_terms.specs.declared.Span.{Span}
use Rattle.signature_model.specs.Entries.{Kind}
use Rattle.signature_model.specs.Lookups.{FoundAmong, an_entry, a_hole, nothing, lookup}
use Rattle.typing_model.specs.Demands.{Site, Word, Condition, demand, test}
use Rattle.typing_model.specs.Contexts.{Context}
use Rattle.typing_model.specs.Names.{names_of, is_found, lost_behind, place_unbound, complaint_unbound}
use Rattle.env_table.specs.declared.faults.FaultKind.{FaultKind}
use Rattle.env_table.specs.declared.entries.Entry.{Entry}
use Rattle.typing_state.specs.declared.parts.Parts.{Parts}
use Rattle.typing_state.specs.declared.demands.Verdict.{Verdict}
use Rattle.typing_state.specs.declared.demands.Verdict.TheVariants.{Kept, Reported}
use Rattle.typing_state.specs.Goes.{faults_of, OnlyFaults, Told}
use Rattle.typing_conditions.specs.Sights.{Sight, Letters}
use Rattle.typing_conditions.specs.Frames.{Frame}
use Rattle.typing_conditions.specs.Judging.{judged_at}
use Rattle.typing_conditions.specs.Carrying.{Asks, Scope, Carried}

-- conditions with one demand are carried, and the demand is judged so
pub record JudgedAs (F : Frame) (scope : Scope) (asks : Asks) (a : Sight) (G : Letters) (b : Sight) (H : Letters) (s : Site) (v : Bool) : Type 0 where
  pub carried : Carried F scope asks a G b H
  pub verdict : carried.judged ≡ judged_at s v false ∷ []

-- whether a verdict is that a demand is kept
abbrev pub is_kept : Verdict → Bool
is_kept Kept = true
is_kept Reported = false

-- a test that holds leaves all as it was; one that doesn't is reported by exactly one fault
abbrev pub TestedAs : Bool → (a b : Parts) → Span → FaultKind → (message : List ℕ) → Type 0
TestedAs true a b at kind message = b ≡ a
TestedAs false a b at kind message = Told a.telling (faults_of a) (faults_of b) at kind message × OnlyFaults a b

-- whether a path of the code finds something, a hole included
abbrev pub is_found_here : FoundAmong Entry → Bool
is_found_here (an_entry e) = true
is_found_here a_hole = true
is_found_here nothing = false

-- the demand that a path is bound, by its site
abbrev pub bound_asks : Context → Site → Kind → Word → List Tok → Tok → List Condition
bound_asks c s kind w qs t =
    let lost = lost_behind c.env [] qs in
    demand s (place_unbound lost t) (test (complaint_unbound lost w t) (is_found (lookup c.env (names_of qs) kind t.name))) ∷ []

-- the same of a last name that may be missing, where the demand isn't made
abbrev pub bound_last_asks : Context → Site → Kind → Word → List Tok → Option Tok → List Condition
bound_last_asks c s kind w qs last = elim last [ None ↦ [] | Some t ↦ bound_asks c s kind w qs t ]
