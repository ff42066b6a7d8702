-- Conditions that depend on which demands before them are kept.
use Rattle.std.proofs.Common.{◌≡◌, ◌++◌, ◌⊎◌, inl, inr, ℕ, ◌+◌, ◌≤◌, Bool, false, if◌then◌else◌, List, [], ◌∷◌, take, length, refl, sym, ap, subst, ◌∙◌}
use Rattle.std.proofs.lemmas.List.{take-append-le}
use Rattle.std.proofs.Math.Seq.{take-append-add}
use Rattle.typing_model.specs.Demands.{Site, Condition, AllHold}
use Rattle.typing_model.specs.Contexts.{Context}
use Rattle.type_nodes.specs.Readings.{Types}
use Rattle.level_unify.specs.Solutions.{Loose}
use Rattle.level_unify.proofs.Unified.{fits_loosely}
use Rattle.typing_conditions.specs.Sights.{Sight, Letters, Agrees}
use Rattle.typing_conditions.specs.Frames.{Frame, Reaches}
use Rattle.typing_conditions.specs.Seeing.{IsSeen}
use Rattle.typing_conditions.specs.Judging.{judgements, AreKept, Follows, FallsShort, Meets, judged_at}
use Rattle.typing_conditions.specs.Carrying.{Asks, Scope, HoldsWritten, IsUnder, Enters, ReadsOff, Continues, Carried}
use Rattle.typing_conditions.proofs.Stays.{agrees_before, named_before, bounds_before}
use Rattle.typing_conditions.proofs.Judged.{hold_left, judged_both, judged_kept, kept_left, given_left, given_right, follows_both, short_left, short_of_more, starts_left}
use Rattle.typing_conditions.proofs.Carried.{Decides, carried_trans, less_or_more}
use Rattle.typing_conditions.proofs.Stops.{stops_both}

-- What is asked after some conditions may depend on how those are judged, and on the names in scope: `actual` is what it is under these judgements, in each context that
-- the state before allows.
unfoldable pub carried_after : {F : Frame} {scope : Scope} {asks further actual : Asks} {a b d : Sight} {G H K : Letters} (p : Carried F scope asks a G b H) →
    ((V : Types) (c : Context) → Loose a.nodes V → IsUnder scope c → Agrees F.owner a G V c.chosen → HoldsWritten scope a → AreKept c.kept p.judged → further c ≡ actual c) → Carried F scope actual b H d K → Carried F scope (λ c. asks c ++ further c) a G d K
unfolding carried_trans
carried_after {F} {scope} {asks} {further} {actual} {a} {b} {d} {G} {H} {K} p by_kept q = record {
  stays = both.stays;
  hidden = both.hidden;
  settled = both.settled;
  clear = both.clear;
  judged = p.judged ++ q.judged;
  told = both.told;
  reports = both.reports;
  counted = both.counted;
  sound = λ r V c l. subst (λ cs. Meets (IsSeen l.scopes l.types V) c.kept (asks c ++ cs) both.judged both.told) (sym (at_end V c l)) (both.sound r V c l);
  follows = follows;
  complete = complete;
  first = λ named k V c e h. first_of named k V c e h (less_or_more k (length (asks c)));
  stops = stops_both p by_kept q;
}
  where
    both : Carried F scope (λ c. asks c ++ actual c) a G d K
    both = carried_trans p q

    at_end : (V : Types) (c : Context) → ReadsOff F scope d K both.hidden both.judged V c → further c ≡ actual c
    at_end V c l = by_kept V c (both.stays.loose V (fits_loosely d.nodes V l.reads.fits)) l.under (agrees_before both.stays l.agrees) (named_before scope both.stays l.named) (kept_left c.kept p.judged q.judged l.kept)

    -- where the first conditions are judged as they were, what is asked after them is this
    here : HoldsWritten scope d → (V : Types) (c : Context) → Enters F scope a G V c → Continues F asks a b H p.hidden p.judged V c → further c ≡ actual c
    here named V c e goes = by_kept V c (fits_loosely a.nodes V e.fits) e.under e.agrees (named_before scope both.stays named) (subst (AreKept c.kept) goes.same (judged_kept c.kept (asks c)))

    follows : Reaches F a → (V : Types) (c : Context) → ReadsOff F scope d K both.hidden [] V c → Follows c.kept (asks c ++ further c) both.judged
    follows r V c l =
        follows_both c.kept (asks c) (further c) p.judged q.judged
        (p.follows r V c (record {
          under = l.under;
          reads = q.stays.reads V l.reads;
          agrees = agrees_before q.stays l.agrees;
          hidden_too = given_left V c.chosen p.hidden q.hidden l.hidden_too;
          named = named_before scope q.stays l.named;
          unbound = bounds_before scope c.chosen q.stays (p.stays.reaches r) l.unbound;
          kept = tt;
          scopes = l.scopes;
          in_the_end = λ i k env h. l.in_the_end i k env (q.stays.keeps.scopes i k env h);
          types = l.types;
          types_too = λ i k m h. l.types_too i k m (q.stays.keeps.recorded i k m h);
        }))
        (λ kept.
        let eq = by_kept V c (both.stays.loose V (fits_loosely d.nodes V l.reads.fits)) l.under (agrees_before both.stays l.agrees) (named_before scope both.stays l.named) kept in
        subst (λ cs. Follows c.kept cs q.judged) (sym eq)
        (q.follows (p.stays.reaches r) V c (record { under = l.under; reads = l.reads; agrees = l.agrees; hidden_too = given_right V c.chosen p.hidden q.hidden l.hidden_too; named = l.named; unbound = l.unbound; kept = tt; scopes = l.scopes; in_the_end = l.in_the_end; types = l.types; types_too = l.types_too })))

    short_in_first : (c : Context) (cs : List Condition) → FallsShort (judgements c.kept (asks c)) p.judged → FallsShort (judgements c.kept (asks c ++ cs)) both.judged
    short_in_first c cs short = subst (λ js. FallsShort js both.judged) (sym (judged_both c.kept (asks c) cs)) (short_left (judgements c.kept (asks c)) p.judged (judgements c.kept cs) q.judged short)

    complete : HoldsWritten scope d → (V : Types) (c : Context) → Enters F scope a G V c → AllHold c.kept (asks c ++ further c) → Continues F (λ x. asks x ++ further x) a d K both.hidden both.judged V c ⊎ FallsShort (judgements c.kept (asks c ++ further c)) both.judged
    complete named V c e h = elim (p.complete (named_before scope q.stays named) V c e (hold_left c.kept (asks c) (further c) h)) [
      | inl goes ↦
          let eq = here named V c e goes in
          elim (both.complete named V c e (subst (λ cs. AllHold c.kept (asks c ++ cs)) eq h)) [
            | inl on ↦ inl (record { same = ap (λ cs. judgements c.kept (asks c ++ cs)) eq ∙ on.same; types = on.types; on = on.on; hidden_too = on.hidden_too })
            | inr short ↦ inr (subst (λ cs. FallsShort (judgements c.kept (asks c ++ cs)) both.judged) (sym eq) short)
          ]
      | inr short ↦ inr (short_in_first c (further c) short)
    ]

    first_of : HoldsWritten scope d → (k : ℕ) (V : Types) (c : Context) → Enters F scope a G V c → AllHold c.kept (take k (asks c ++ further c)) → (k ≤ length (asks c)) ⊎ ((n : ℕ) × (k ≡ length (asks c) + n)) → Decides c both.judged (take k (asks c ++ further c))
    first_of named k V c e h (inl le) =
        let at = take-append-le k (asks c) (further c) le in
        subst (Decides c both.judged) (sym at) (elim (p.first (named_before scope q.stays named) k V c e (subst (AllHold c.kept) at h)) [
          | inl starts ↦ inl (starts_left p.judged (judgements c.kept (take k (asks c))) q.judged starts)
          | inr short ↦ inr (short_of_more (judgements c.kept (take k (asks c))) p.judged q.judged short)
        ])
    first_of named k V c e h (inr (n, more)) =
        let at = ap (λ i. take i (asks c ++ further c)) more ∙ take-append-add (asks c) (further c) n in
        elim (p.complete (named_before scope q.stays named) V c e (hold_left c.kept (asks c) (take n (further c)) (subst (AllHold c.kept) at h))) [
          | inl goes ↦
              let eq = here named V c e goes in
              subst (λ cs. Decides c both.judged (take k (asks c ++ cs))) (sym eq) (both.first named k V c e (subst (λ cs. AllHold c.kept (take k (asks c ++ cs))) eq h))
          | inr short ↦ subst (Decides c both.judged) (sym at) (inr (short_in_first c (take n (further c)) short))
        ]

-- it hides what the two hide one after the other
pub after_hides : {F : Frame} {scope : Scope} {asks further actual : Asks} {a b d : Sight} {G H K : Letters} (p : Carried F scope asks a G b H)
    (by_kept : (V : Types) (c : Context) → Loose a.nodes V → IsUnder scope c → Agrees F.owner a G V c.chosen → HoldsWritten scope a → AreKept c.kept p.judged → further c ≡ actual c) (q : Carried F scope actual b H d K) → (carried_after p by_kept q).hidden ≡ (carried_trans p q).hidden
unfolding carried_after
after_hides p by_kept q = refl

-- the same where the judgements alone decide
unfoldable pub carried_then : {F : Frame} {scope : Scope} {asks further actual : Asks} {a b d : Sight} {G H K : Letters} (p : Carried F scope asks a G b H) → ((c : Context) → AreKept c.kept p.judged → further c ≡ actual c) →
    Carried F scope actual b H d K → Carried F scope (λ c. asks c ++ further c) a G d K
carried_then p by_kept q = carried_after p (λ V c loose under agrees named h. by_kept c h) q

pub then_hides : {F : Frame} {scope : Scope} {asks further actual : Asks} {a b d : Sight} {G H K : Letters} (p : Carried F scope asks a G b H) (by_kept : (c : Context) → AreKept c.kept p.judged → further c ≡ actual c) (q : Carried F scope actual b H d K) → (carried_then p by_kept q).hidden ≡ (carried_trans p q).hidden
unfolding carried_then carried_after
then_hides p by_kept q = refl

-- after one demand: what is asked where it is kept, or what is asked where it isn't
pub carried_if : {F : Frame} {scope : Scope} {asks : Asks} {a b d : Sight} {G H K : Letters} (kept_so other : Asks) (s : Site) (v : Bool) (p : Carried F scope asks a G b H) → p.judged ≡ judged_at s v false ∷ [] →
    Carried F scope (λ c. if v then kept_so c else other c) b H d K → Carried F scope (λ c. asks c ++ (if c.kept s then kept_so c else other c)) a G d K
carried_if kept_so other s v p one q =
    carried_then p (λ c k. let h : AreKept c.kept (judged_at s v false ∷ []) = subst (AreKept c.kept) one k in ap (λ (t : Bool). if t then kept_so c else other c) h.0) q
