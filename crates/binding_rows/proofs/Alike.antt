-- What is carried, where other words for it are the same in each context that a state allows.
use Rattle.std.proofs.Common.{◌≡◌, ◌∙◌, inl, inr, List, [], take, sym, ap, subst}
use Rattle.typing_model.specs.Demands.{AllHold}
use Rattle.typing_model.specs.Contexts.{Context}
use Rattle.type_nodes.specs.Readings.{Types}
use Rattle.level_unify.proofs.Unified.{fits_loosely}
use Rattle.typing_conditions.specs.Sights.{Sight, Letters}
use Rattle.typing_conditions.specs.Frames.{Frame}
use Rattle.typing_conditions.specs.Seeing.{IsSeen}
use Rattle.typing_conditions.specs.Judging.{Judgement, judgements, Follows, FallsShort, Meets}
use Rattle.typing_conditions.specs.Carrying.{Asks, Scope, HoldsWritten, Enters, ReadsOff, Carried}
use Rattle.typing_conditions.proofs.Carried.{Decides}
use Rattle.typing_conditions.proofs.Stays.{agrees_before, named_before}
use Rattle.typing_steps.specs.Building.{InEach}
use Rattle.typing_conditions.proofs.Stops.{stop_here}

-- The conditions may be written in another way that comes to the same in each context of the state before.
pub carried_alike : {F : Frame} {scope : Scope} {asks others : Asks} {a b : Sight} {G H : Letters} → InEach F scope a G (λ c. asks c ≡ others c) → Carried F scope asks a G b H → Carried F scope others a G b H
carried_alike {F} {scope} {asks} {others} {a} {b} {G} {H} same p = record {
  stays = p.stays;
  hidden = p.hidden;
  settled = p.settled;
  clear = p.clear;
  judged = p.judged;
  told = p.told;
  reports = p.reports;
  counted = p.counted;
  sound = λ r V c l. subst (λ cs. Meets (IsSeen l.scopes l.types V) c.kept cs p.judged p.told) (read p.judged V c l) (p.sound r V c l);
  follows = λ r V c l. subst (λ cs. Follows c.kept cs p.judged) (read [] V c l) (p.follows r V c l);
  complete = λ named V c e h. elim (p.complete named V c e (subst (AllHold c.kept) (sym (entered named V c e)) h)) [
    | inl goes ↦ inl (record { same = ap (judgements c.kept) (sym (entered named V c e)) ∙ goes.same; types = goes.types; on = goes.on; hidden_too = goes.hidden_too })
    | inr short ↦ inr (subst (λ cs. FallsShort (judgements c.kept cs) p.judged) (entered named V c e) short)
  ];
  first = λ named k V c e h. subst (λ cs. Decides c p.judged (take k cs)) (entered named V c e) (p.first named k V c e (subst (λ cs. AllHold c.kept (take k cs)) (sym (entered named V c e)) h));
  stops = λ k r f kind. stop_here same (p.stops k r f kind);
}
  where
    entered : HoldsWritten scope b → (V : Types) (c : Context) → Enters F scope a G V c → asks c ≡ others c
    entered named V c e = same V c (fits_loosely a.nodes V e.fits) e.under e.agrees (named_before scope p.stays named)

    read : (js : List Judgement) (V : Types) (c : Context) → ReadsOff F scope b H p.hidden js V c → asks c ≡ others c
    read js V c l = same V c (p.stays.loose V (fits_loosely b.nodes V l.reads.fits)) l.under (agrees_before p.stays l.agrees) (named_before scope p.stays l.named)
