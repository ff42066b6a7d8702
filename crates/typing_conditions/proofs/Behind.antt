-- A demand, and behind it that a type is known: a name's, as a short field of a pattern brings it in. Letters are opened for what is asked there.
use Rattle.std.proofs.Common.{◌≡◌, ◌∙◌, ◌⊎◌, inl, inr, ◌++◌, ℕ, zero, suc, ◌+◌, ◌≤◌, Bool, true, false, List, [], ◌∷◌, take, length, refl, sym, ap, subst, append-nil}
use Rattle.std.proofs.lemmas.List.{take-append-le}
use Rattle.std.proofs.Math.Seq.{take-append-add}
use Rattle.tree_model.specs.Trees.{Place}
use Rattle.type_model.specs.Types.{Typ}
use Rattle.signature_model.specs.Entries.{Environment}
use Rattle.typing_model.specs.Demands.{Site, Demand, Condition, demand, known, AllHold}
use Rattle.typing_model.specs.Contexts.{Choice, Context}
use Rattle.type_nodes.specs.Readings.{Types}
use Rattle.level_unify.specs.Solutions.{Loose}
use Rattle.level_unify.proofs.Unified.{fits_loosely}
use Rattle.typing_conditions.specs.Sights.{Sight, Letters, AreGiven, Agrees}
use Rattle.typing_conditions.specs.Frames.{Frame}
use Rattle.typing_conditions.specs.Seeing.{IsSeen}
use Rattle.typing_conditions.specs.Judging.{judgements, Follows, StartsWith, FallsShort, TellAll, treats_none, starts_known, AllSeen}
use Rattle.typing_conditions.specs.Carrying.{Asks, Scope, HoldsWritten, Enters, Stays, Carried}
use Rattle.typing_conditions.proofs.Judged.{hold_both, hold_left, hold_right, judged_both, given_both, tell_both, follows_both, follows_silent, seen_none}
use Rattle.typing_conditions.proofs.Stays.{stays_trans, agrees_before}
use Rattle.typing_conditions.proofs.Carried.{Decides, less_or_more}
use Rattle.typing_conditions.proofs.Hiding.{settles_on, placed_before}
use Rattle.typing_conditions.proofs.Stops.{stop_silent}

-- conditions are one demand
abbrev pub IsOneDemand : List Condition → Type 0
IsOneDemand cs = (s : Site) × (at : Place) × (d : Demand) × (cs ≡ demand s at d ∷ [])

-- That a type is known, and further conditions of which none is a demand: letters opened for them make them hold, and what holds gives them.
pub record IsTail (F : Frame) (b : Sight) (H opened : Letters) (type : Choice → Typ) (rest : Asks) : Type 0 where
  pub opens : Stays F b H b (opened ++ H)
  pub holds : (V : Types) (c : Context) → Loose b.nodes V → Agrees F.owner b (opened ++ H) V c.chosen → AllHold c.kept (known (type c.chosen) ∷ rest c)
  pub gives : (V : Types) (c : Context) → Loose b.nodes V → Agrees F.owner b H V c.chosen → AllHold c.kept (known (type c.chosen) ∷ rest c) → AreGiven opened V c.chosen
  pub silent : (c : Context) → judgements c.kept (rest c) ≡ []
  pub silent_first : (k : ℕ) (c : Context) → judgements c.kept (take k (rest c)) ≡ []
  pub reports_none : (c : Context) → TellAll c.kept (rest c) []
  pub treats : (c : Context) → treats_none (rest c) ≡ true

-- what is treated in one demand, and behind it in a tail
seen_behind : (S : ℕ → Environment → Bool → Type 0) (cs rest : List Condition) (t : Typ) → IsOneDemand cs → treats_none rest ≡ true → AllSeen S (cs ++ known t ∷ rest)
seen_behind S cs rest t (s, at, d, e) none = subst (λ xs. AllSeen S (xs ++ known t ∷ rest)) (sym e) (seen_none S rest none)

starts_behind : (cs rest : List Condition) (t : Typ) → IsOneDemand cs → starts_known (cs ++ known t ∷ rest) ≡ false
starts_behind cs rest t (s, at, d, e) = ap (λ xs. starts_known (xs ++ known t ∷ rest)) e

-- the demand, and then the others
pub carried_behind : {F : Frame} {scope : Scope} {asks rest : Asks} {type : Choice → Typ} {a b : Sight} {G H opened : Letters} (p : Carried F scope asks a G b H) → IsTail F b H opened type rest → ((c : Context) → IsOneDemand (asks c)) →
    Carried F scope (λ c. asks c ++ known (type c.chosen) ∷ rest c) a G b (opened ++ H)
carried_behind {F} {scope} {asks} {rest} {type} {a} {b} {G} {H} {opened} p tail one = record {
  stays = stays_trans p.stays tail.opens;
  hidden = p.hidden;
  settled = settles_on p.hidden tail.opens.keeps p.settled;
  clear = λ known placed. p.clear known (placed_before tail.opens.keeps placed);
  judged = p.judged;
  told = p.told;
  reports = p.reports;
  counted = p.counted;
  sound = λ r V c l.
      let before = agrees_before tail.opens l.agrees in
      let meets = p.sound r V c (record {
        under = l.under;
        reads = l.reads;
        agrees = before;
        hidden_too = l.hidden_too;
        named = l.named;
        unbound = l.unbound;
        kept = l.kept;
        scopes = l.scopes;
        in_the_end = l.in_the_end;
        types = l.types;
        types_too = l.types_too;
      }) in
      record {
        same = judged_both c.kept (asks c) (behind c) ∙ ap (λ js. judgements c.kept (asks c) ++ js) (tail.silent c) ∙ append-nil (judgements c.kept (asks c)) ∙ meets.same;
        holds = hold_both c.kept (asks c) (behind c) meets.holds (tail.holds V c (fits_loosely b.nodes V l.reads.fits) l.agrees);
        tells = subst (TellAll c.kept (asks c ++ behind c)) (append-nil p.told) (tell_both c.kept (asks c) (behind c) p.told [] meets.tells (tail.reports_none c));
        sees = seen_behind (IsSeen l.scopes l.types V) (asks c) (rest c) (type c.chosen) (one c) (tail.treats c);
        starts = starts_behind (asks c) (rest c) (type c.chosen) (one c);
      };
  follows = λ r V c l.
      subst (Follows c.kept (asks c ++ behind c)) (append-nil p.judged)
      (follows_both c.kept (asks c) (behind c) p.judged []
      (p.follows r V c (record {
        under = l.under;
        reads = l.reads;
        agrees = agrees_before tail.opens l.agrees;
        hidden_too = l.hidden_too;
        named = l.named;
        unbound = l.unbound;
        kept = tt;
        scopes = l.scopes;
        in_the_end = l.in_the_end;
        types = l.types;
        types_too = l.types_too;
      }))
      (λ kept. follows_silent c.kept (behind c) (tail.silent c)));
  complete = λ named V c e h. elim (p.complete named V c e (hold_left c.kept (asks c) (behind c) h)) [
    | inl goes ↦ inl (record {
      same = judged_both c.kept (asks c) (behind c) ∙ ap (λ js. judgements c.kept (asks c) ++ js) (tail.silent c) ∙ append-nil (judgements c.kept (asks c)) ∙ goes.same;
      types = goes.types;
      on = record {
        fits = goes.on.fits;
        before = goes.on.before;
        agrees = record {
          recorded = goes.on.agrees.recorded;
          known = goes.on.agrees.known;
          written = goes.on.agrees.written;
          given = given_both goes.types c.chosen opened H (tail.gives goes.types c (fits_loosely b.nodes goes.types goes.on.fits) goes.on.agrees (hold_right c.kept (asks c) (behind c) h)) goes.on.agrees.given;
        };
      };
      hidden_too = goes.hidden_too;
    })
    | inr short ↦ inr (subst (λ js. FallsShort js p.judged) (sym (judged_whole c)) short)
  ];
  first = λ named k V c e h. by_place named k V c e h (less_or_more k (length (asks c)));
  stops = λ k r e kind. stop_silent (λ c. known (type c.chosen) ∷ rest c) p tail.opens (p.stops k r e kind);
}
  where
    behind : Context → List Condition
    behind c = known (type c.chosen) ∷ rest c

    judged_whole : (c : Context) → judgements c.kept (asks c ++ behind c) ≡ judgements c.kept (asks c)
    judged_whole c = judged_both c.kept (asks c) (behind c) ∙ ap (λ js. judgements c.kept (asks c) ++ js) (tail.silent c) ∙ append-nil (judgements c.kept (asks c))

    silent_behind : (k : ℕ) (c : Context) → judgements c.kept (take k (behind c)) ≡ []
    silent_behind zero c = refl
    silent_behind (suc k) c = tail.silent_first k c

    all_first : HoldsWritten scope b → (V : Types) (c : Context) → Enters F scope a G V c → AllHold c.kept (asks c) → Decides c p.judged (asks c)
    all_first named V c e h = subst (Decides c p.judged) (take_all (asks c)) (p.first named (length (asks c)) V c e (subst (AllHold c.kept) (sym (take_all (asks c))) h))
      where
        take_all : (cs : List Condition) → take (length cs) cs ≡ cs
        take_all [] = refl
        take_all (x ∷ cs) = ap (λ xs. x ∷ xs) (take_all cs)

    by_place : HoldsWritten scope b → (k : ℕ) (V : Types) (c : Context) → Enters F scope a G V c → AllHold c.kept (take k (asks c ++ behind c)) → (k ≤ length (asks c)) ⊎ ((n : ℕ) × (k ≡ length (asks c) + n)) → Decides c p.judged (take k (asks c ++ behind c))
    by_place named k V c e h (inl le) =
        let same = take-append-le k (asks c) (behind c) le in
        subst (Decides c p.judged) (sym same) (p.first named k V c e (subst (AllHold c.kept) same h))
    by_place named k V c e h (inr (n, more)) =
        let split = ap (λ m. take m (asks c ++ behind c)) more ∙ take-append-add (asks c) (behind c) n in
        let held = subst (AllHold c.kept) split h in
        let judged = judged_both c.kept (asks c) (take n (behind c)) ∙ ap (λ js. judgements c.kept (asks c) ++ js) (silent_behind n c) ∙ append-nil (judgements c.kept (asks c)) in
        subst (λ js. StartsWith p.judged js ⊎ FallsShort js p.judged) (sym (ap (judgements c.kept) split ∙ judged)) (all_first named V c e (hold_left c.kept (asks c) (take n (behind c)) held))
