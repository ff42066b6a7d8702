-- A node whose type is what the choice has for it: at the end of its row, and where it is recorded.
use Rattle.std.proofs.Common.{◌≡◌, ◌∙◌, ◌⊎◌, inl, inr, ℕ, zero, suc, true, List, [], ◌∷◌, ◌++◌, take, refl, sym, ap, subst, append-nil}
use Rattle.type_model.specs.Types.{Typ}
use Rattle.signature_model.specs.Matching.{IsKnown}
use Rattle.typing_model.specs.Demands.{same, AllHold}
use Rattle.typing_model.specs.Contexts.{Choice, Context, tell_typed}
use Rattle.type_nodes.specs.Readings.{Types, Fits}
use Rattle.level_unify.proofs.Unified.{fits_loosely}
use Rattle.typing_conditions.specs.Sights.{Sight, own, number_in, Letters, AreNodes}
use Rattle.env_table.specs.declared.entries.Entry.{Entry}
use Rattle.typing_conditions.specs.Frames.{Frame}
use Rattle.typing_conditions.specs.Seeing.{StandsFor, IsSeen}
use Rattle.typing_conditions.specs.Meanings.{Means}
use Rattle.typing_conditions.specs.Judging.{StartsWith, FallsShort}
use Rattle.typing_conditions.specs.Steps.{Records}
use Rattle.typing_conditions.specs.Carrying.{Asks, Scope, HoldsWritten, Enters, SeesScope, GoesOn, Stays, Continues, Carried, EndsAs}
use Rattle.typing_conditions.proofs.Judged.{seen_none, start_none, follows_silent, starts_all}
use Rattle.typing_conditions.proofs.Stays.{stays_refl, stays_trans, stays_opened, agrees_before, named_before, bounds_before}
use Rattle.typing_conditions.proofs.First.{first_one, starts_none}
use Rattle.typing_conditions.proofs.Carried.{Decides}
use Rattle.typing_conditions.specs.Hiding.{ArePlaced, AreDone, Owns, AreSure}
use Rattle.typing_conditions.proofs.Keeping.{all_among, carried_kept, kept_done}
use Rattle.typing_conditions.proofs.Meaning.{means_on}
use Rattle.typing_conditions.proofs.Recording.{now_or_before, here_now, records_stay, records_note}
use Rattle.typing_conditions.proofs.Hiding.{placed_before, settles_none, settles_on, owns_sure, none_doubtful}
use Rattle.typing_model.specs.Demands.{treated}
use Rattle.typing_model.specs.Demands as condition
use Rattle.typing_conditions.proofs.Stops.{none_stop, stop_cons, stop_end, treated_silent, known_silent, lasts_on}

-- a type is itself
pub same_itself : {F : Frame} {scope : Scope} {G : Letters} {a : Sight} (type : Choice → Typ) → Carried F scope (λ c. same (type c.chosen) (type c.chosen) ∷ []) a G a G
same_itself {F} {scope} {G} {a} type = record {
  stays = stays_refl;
  hidden = [];
  settled = settles_none;
  clear = λ known placed. none_doubtful;
  judged = [];
  told = [];
  reports = sym (append-nil a.reports);
  counted = refl;
  sound = λ r V c l. record { same = refl; holds = (refl, tt); tells = refl; sees = tt; starts = refl };
  follows = λ r V c l. refl;
  complete = λ named. complete;
  first = λ named. first_one (λ c. same (type c.chosen) (type c.chosen)) complete;
  stops = none_stop;
}
  where
    complete : (V : Types) (c : Context) → Enters F scope a G V c → AllHold c.kept (same (type c.chosen) (type c.chosen) ∷ []) →
        Continues F (λ c. same (type c.chosen) (type c.chosen) ∷ []) a a G [] [] V c ⊎ FallsShort [] []
    complete V c e h = inl (record { same = refl; types = V; on = record { fits = e.fits; before = λ i lt. refl; agrees = e.agrees }; hidden_too = (tt, tt) })

-- what a row asks at its end: from then on the choice has the row's type for its node
pub ends_made : {F : Frame} {scope : Scope} {G : Letters} {a : Sight} {n m : ℕ} {type : Choice → Typ} {ends : Asks} → Means F a G type m → EndsAs n type ends → Carried F scope ends a G a ((own n, m) ∷ G)
ends_made {F} {scope} {G} {a} {n} {m} {type} {ends} p end = record {
  stays = stays_opened (own n) p.open_node.inside;
  hidden = [];
  settled = settles_none;
  clear = λ known placed. none_doubtful;
  judged = [];
  told = [];
  reports = sym (append-nil a.reports);
  counted = refl;
  sound = λ r V c l.
      let before = agrees_before (stays_opened {F = F} (own n) p.open_node.inside) l.agrees in
      record { same = end.silent c; holds = end.holds c (l.agrees.given.0.is ∙ sym (p.is V c.chosen (fits_loosely a.nodes V l.reads.fits) before)); tells = end.reports_none c; sees = seen_none (IsSeen l.scopes l.types V) (ends c) (end.treats c); starts = start_none (ends c) (end.treats c) };
  follows = λ r V c l. follows_silent c.kept (ends c) (end.silent c);
  complete = λ named V c e h.
      let g = e.agrees in
      inl (record {
        same = end.silent c;
        types = V;
        on = record {
          fits = e.fits;
          before = λ i lt. refl;
          agrees = record { recorded = g.recorded; known = g.known; written = g.written; given = (record { is = end.gives c (V m) h (p.is V c.chosen (fits_loosely a.nodes V e.fits) g); known = tt }, g.given) };
        };
        hidden_too = (tt, tt);
      });
  first = λ named k V c e h. inl (subst (StartsWith []) (sym (end.silent_first k c)) (starts_all []));
  stops = none_stop;
}

-- A node for which the choice has its type already is recorded. It tells what it is before all that was asked.
unfoldable pub own_recorded : {F : Frame} {scope : Scope} {asks : Asks} {a b d : Sight} {G H : Letters} (n : ℕ) {p m : ℕ} {env : List Entry} → number_in b.item p ≡ n → Carried F scope asks a G b H → Means F b H (λ ch. ch.type_at n) m → Records b d p m env → SeesScope F scope a G env →
    Carried F scope (λ c. tell_typed n c ++ asks c) a G d H
own_recorded {F} {scope} {asks} {a} {b} {d} {G} {H} n {p} {m} {env} number it means r sees = record {
  stays = stays_trans it.stays later;
  hidden = it.hidden;
  settled = settles_on it.hidden later.keeps it.settled;
  clear = λ known placed. it.clear known (placed_before later.keeps placed);
  judged = it.judged;
  told = it.told;
  reports = r.reports ∙ it.reports;
  counted = it.counted;
  sound = λ r' V c l.
      let g = agrees_before later l.agrees in
      let meets = it.sound r' V c (record {
        under = l.under;
        reads = later.reads V l.reads;
        agrees = g;
        hidden_too = l.hidden_too;
        named = named_before scope later l.named;
        unbound = bounds_before scope c.chosen later (it.stays.reaches r') l.unbound;
        kept = l.kept;
        scopes = l.scopes;
        in_the_end = λ i q names h. l.in_the_end i q names (r.scopes i q names h);
        types = l.types;
        types_too = λ i k m h. l.types_too i k m (later.recorded i k m h);
      }) in
      let here = means.is V c.chosen (fits_loosely b.nodes V (later.reads V l.reads).fits) g in
      let stand = sees V c.chosen (it.stays.reads V (later.reads V l.reads)) (agrees_before it.stays g) (named_before scope it.stays (named_before scope later l.named)) (bounds_before scope c.chosen it.stays r' (bounds_before scope c.chosen later (it.stays.reaches r') l.unbound)) in
      record {
        same = meets.same;
        holds = (tt, (subst IsKnown (sym here) (l.agrees.known b.item p m (here_now r)), meets.holds));
        tells = meets.tells;
        sees = (record { item = b.item; place = p; number = sym number; env = env; at = l.in_the_end b.item p env r.scope; stands = subst (StandsFor V env) (sym l.under.env) stand; typed = λ told. (m, l.types_too b.item p m (here_now r)) }, meets.sees);
        starts = refl;
      };
  follows = λ r' V c l. it.follows r' V c (record {
    under = l.under;
    reads = later.reads V l.reads;
    agrees = agrees_before later l.agrees;
    hidden_too = l.hidden_too;
    named = named_before scope later l.named;
    unbound = bounds_before scope c.chosen later (it.stays.reaches r') l.unbound;
    kept = l.kept;
    scopes = l.scopes;
    in_the_end = λ i q names h. l.in_the_end i q names (r.scopes i q names h);
    types = l.types;
    types_too = λ i k m h. l.types_too i k m (later.recorded i k m h);
  });
  complete = λ named V c e h. elim (it.complete (named_before scope later named) V c e h.1.1) [
    | inl on ↦ inl (record { same = on.same; types = on.types; on = goes V c h.1.0 on; hidden_too = (subst (AreNodes it.hidden) (sym r.nodes) on.hidden_too.0, on.hidden_too.1) })
    | inr short ↦ inr short
  ];
  first = λ named. first (named_before scope later named);
  stops = λ k s e kind. stop_cons (λ c. treated n c.env) (treated_silent n) (stop_cons (λ c. condition.known (c.chosen.type_at n)) (known_silent n) (stop_end (lasts_on (it.hidden ++ H) later) (it.stops k s e kind)));
}
  where
    later : Stays F b H d H
    later = records_stay r means.open_node.inside

    goes : (V : Types) (c : Context) → IsKnown (c.chosen.type_at n) → (on : Continues F asks a b H it.hidden it.judged V c) → GoesOn F a d H V on.types c.chosen
    goes V c is_known on =
        let g = on.on.agrees in
        let here = means.is on.types c.chosen (fits_loosely b.nodes on.types on.on.fits) g in
        record {
          fits = subst (λ ns. Fits ns on.types) (sym r.nodes) on.on.fits;
          before = on.on.before;
          agrees = record {
            recorded = λ i q x f. elim (now_or_before r i q x f) [
              | inl (item, place, one) ↦ (λ k. c.chosen.type_at (number_in (sym item k) (sym place k))) ∙ ap c.chosen.type_at number ∙ here ∙ ap on.types one
              | inr h ↦ g.recorded i q x h
            ];
            known = λ i q x f. elim (now_or_before r i q x f) [ inl (item, place, one) ↦ subst IsKnown (here ∙ ap on.types one) is_known | inr h ↦ g.known i q x h ];
            written = λ x y e. g.written x y (sym (r.written x) ∙ e);
            given = g.given;
          };
        }

    first : HoldsWritten scope b → (k : ℕ) (V : Types) (c : Context) → Enters F scope a G V c → AllHold c.kept (take k (tell_typed n c ++ asks c)) → Decides c it.judged (take k (tell_typed n c ++ asks c))
    first named zero V c e h = inl (starts_none it.judged)
    first named (suc zero) V c e h = inl (starts_none it.judged)
    first named (suc (suc k)) V c e h = it.first named k V c e h.1.1

-- The letters of its row stay open, as those of a row that is done.
pub record HeadNoted (F : Frame) (scope : Scope) (asks : Asks) (a : Sight) (G : Letters) (d : Sight) (letters : Letters) (type : Choice → Typ) (m : ℕ) : Type 0 where
  pub carried : Carried F scope asks a G d (letters ++ G)
  pub means : Means F d (letters ++ G) type m
  pub done : AreDone d carried.hidden letters

-- where they are without doubt once it is noted
pub own_sure : {F : Frame} {scope : Scope} {asks : Asks} {a b d : Sight} {G H : Letters} (letters : Letters) (n : ℕ) {p m : ℕ} {env : List Entry} (place : number_in b.item p ≡ n) (it : Carried F scope asks a G b H) (means : Means F b H (λ ch. ch.type_at n) m) (r : Records b d p m env) (sees : SeesScope F scope a G env) →
    Owns n m b it.hidden letters → F.known ≡ true → ArePlaced d → AreSure a d (own_recorded n place it means r sees).hidden letters
unfolding own_recorded
own_sure letters n place it means r sees owned known placed = owns_sure it.hidden it.stays.keeps it.settled placed (it.clear known (placed_before (records_note place r).keeps placed)) (records_note place r) owned

unfoldable pub head_noted : {F : Frame} {scope : Scope} {asks : Asks} {a b d : Sight} {G : Letters} (letters : Letters) (n : ℕ) {p m : ℕ} {env : List Entry} → number_in b.item p ≡ n → (it : Carried F scope asks a G b (letters ++ G)) → Means F b (letters ++ G) (λ ch. ch.type_at n) m → Records b d p m env → SeesScope F scope a G env →
    Owns n m b it.hidden letters → HeadNoted F scope (λ c. tell_typed n c ++ asks c) a G d letters (λ ch. ch.type_at n) m
head_noted letters n place it means r sees owned =
    let whole = own_recorded n place it means r sees in
    let sure = own_sure letters n place it means r sees owned in
    record { carried = carried_kept letters letters (all_among letters) whole sure; means = means_on (records_stay r means.open_node.inside) means; done = kept_done letters whole sure owned.sure }
