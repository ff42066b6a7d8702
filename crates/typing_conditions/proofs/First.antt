-- Single steps: what the first of at most one condition comes to.
use Rattle.std.proofs.Common.{◌≡◌, ◌⊎◌, inl, inr, Bool, ℕ, zero, suc, List, [], ◌∷◌, take, refl, sym, ap, subst}
use Rattle.signature_model.specs.Entries.{Environment}
use Rattle.typing_model.specs.Demands.{Site, Condition, AllHold}
use Rattle.typing_model.specs.Contexts.{Context}
use Rattle.type_nodes.specs.Readings.{Types}
use Rattle.typing_conditions.specs.Sights.{Sight, Letters}
use Rattle.typing_conditions.specs.Frames.{Frame}
use Rattle.typing_conditions.specs.Judging.{Judgement, judgements, StartsWith, FallsShort, Meets}
use Rattle.typing_conditions.specs.Carrying.{Scope, Enters, Continues}
use Rattle.typing_conditions.proofs.Judged.{starts_all}
use Rattle.typing_conditions.proofs.Carried.{Decides, take_none}

-- a list of judgements begins with none
pub starts_none : (js : List Judgement) → StartsWith js []
starts_none js = record { rest = js; split = refl }

-- where nothing is asked nothing is decided
pub first_none : (k : ℕ) (c : Context) → Decides c [] (take k (let none : List Condition = [] in none))
first_none k c = inl (subst (λ cs. StartsWith [] (judgements c.kept cs)) (sym (take_none k)) (starts_all []))

-- where one condition is asked the first ones are none or all
pub first_one : {F : Frame} {scope : Scope} {a b : Sight} {G H : Letters} {hidden : Letters} {judged : List Judgement} (ask : Context → Condition) →
    ((V : Types) (c : Context) → Enters F scope a G V c → AllHold c.kept (ask c ∷ []) → Continues F (λ x. ask x ∷ []) a b H hidden judged V c ⊎ FallsShort (judgements c.kept (ask c ∷ [])) judged) →
    (k : ℕ) (V : Types) (c : Context) → Enters F scope a G V c → AllHold c.kept (take k (ask c ∷ [])) → Decides c judged (take k (ask c ∷ []))
first_one {judged = judged} ask complete zero V c e h = inl (starts_none judged)
first_one {judged = judged} ask complete (suc k) V c e h =
    let here : ask c ∷ take k [] ≡ ask c ∷ [] = ap (λ cs. ask c ∷ cs) (take_none k) in
    subst (Decides c judged) (sym here) (elim (complete V c e (subst (AllHold c.kept) here h)) [
      | inl goes ↦ inl (subst (StartsWith judged) (sym goes.same) (starts_all judged))
      | inr short ↦ inr short
    ])

-- where nothing is asked it is met
pub nothing_met : {S : ℕ → Environment → Bool → Type 0} (kept : Site → Bool) → Meets S kept [] [] []
nothing_met kept = record { same = refl; holds = tt; tells = refl; sees = tt; starts = refl }
