-- What is recorded for a node: its type is that of its row.
use Rattle.std.proofs.Common.{◌≡◌, ◌∙◌, ◌⊎◌, inl, inr, ℕ, zero, suc, ◌+◌, ◌≤◌, Bool, true, false, ◌&&◌, ◌==◌, if◌then◌else◌, List, [], ◌∷◌, ◌++◌, take, length, refl, sym, ap, subst, arith, append-nil, Some, None}
use Rattle.std.proofs.lemmas.Bool.{eqb-true}
use Rattle.std.proofs.lemmas.List.{take-append-le}
use Rattle.std.proofs.Math.Seq.{take-append-add}
use Rattle.type_model.specs.Types.{Typ}
use Rattle.type_model.proofs.Applying.{eqb_same}
use Rattle.signature_model.specs.Matching.{IsKnown}
use Rattle.typing_laws.proofs.Bools.{no_yes, and_cases, and_both}
use Rattle.typing_model.specs.Demands.{Condition, same, known, treated, AllHold}
use Rattle.env_table.specs.declared.entries.Entry.{Entry}
use Rattle.typing_model.specs.Contexts.{Choice, Context, tell, tell_typed}
use Rattle.type_nodes.specs.Nodes.{IsNode}
use Rattle.type_nodes.specs.Readings.{Types, Fits, IsReading}
use Rattle.level_unify.specs.Solutions.{Loose}
use Rattle.level_unify.proofs.Unified.{fits_loosely}
use Rattle.typing_conditions.specs.Locals.{IsOwn, Refines}
use Rattle.typing_conditions.proofs.Steps.{refines_none}
use Rattle.typing_conditions.specs.Sights.{Sight, Key, number_in, Letters, AreNodes, Agrees}
use Rattle.typing_conditions.specs.Frames.{Frame, Reaches}
use Rattle.typing_conditions.specs.Seeing.{StandsFor, IsSeen}
use Rattle.typing_conditions.specs.Judging.{judgements, Follows, StartsWith, FallsShort, TellAll, Meets}
use Rattle.typing_conditions.specs.Steps.{Records}
use Rattle.typing_conditions.specs.Carrying.{Asks, Scope, HoldsWritten, Enters, ReadsOff, SeesScope, GoesOn, AreCopied, Stays, AreStops, AreHidden, Continues, Carried, CarriedTo, EndsAs}
use Rattle.typing_conditions.proofs.Judged.{hold_both, hold_left, hold_right, judged_both, given_left, given_right, given_both, tell_both, seen_both, seen_none, start_none, follows_both, follows_silent, starts_all}
use Rattle.typing_conditions.proofs.Stays.{stays_trans, stays_closed, agrees_before, named_before, bounds_before}
use Rattle.typing_conditions.proofs.Framing.{open_on, reaches_same, written_next}
use Rattle.typing_conditions.proofs.Carried.{Decides, hidden_more, take_none, less_or_more}
use Rattle.typing_conditions.proofs.First.{starts_none}
use Rattle.typing_conditions.specs.Hiding.{Keeps, marked, is_sure, Owns, NotesRow}
use Rattle.typing_conditions.proofs.Hiding.{one_some, placed_before, settles_on, settles_closed, given_unmarked, marked_copy, copy_itself, copy_first, copy_second, owns_sure, sure_marked}
use Rattle.typing_conditions.proofs.Copies.{copied_same, copied_after, copied_parts}
use Rattle.typing_conditions.proofs.Stops.{lasts_same, stop_end, stop_silent, stop_cons, treated_silent, known_silent}

-- what is recorded now is the new node, or was recorded before
pub now_or_before : {a b : Sight} {p m : ℕ} {env : List Entry} → Records a b p m env → (i q x : ℕ) → b.types i q ≡ Some x → ((a.item ≡ i) × (p ≡ q) × (m ≡ x)) ⊎ (a.types i q ≡ Some x)
now_or_before {a} {b} {p} {m} r i q x e = at (a.item == i && p == q) refl
  where
    at : (t : Bool) → (a.item == i && p == q) ≡ t → ((a.item ≡ i) × (p ≡ q) × (m ≡ x)) ⊎ (a.types i q ≡ Some x)
    at true f =
        let both = and_cases (a.item == i) (p == q) f in
        inl (eqb-true a.item i both.0, eqb-true p q both.1, one_some m x (sym (ap (λ t. if t then Some m else a.types i q) f) ∙ sym (r.types i q) ∙ e))
    at false f = inr (sym (ap (λ t. if t then Some m else a.types i q) f) ∙ sym (r.types i q) ∙ e)

-- what is recorded now
pub here_now : {a b : Sight} {p m : ℕ} {env : List Entry} → Records a b p m env → b.types a.item p ≡ Some m
here_now {a} {b} {p} {m} r = r.types a.item p ∙ ap (λ t. if t then Some m else a.types a.item p) (and_both (a.item == a.item) (p == p) (eqb_same a.item) (eqb_same p))

still_there : {a b : Sight} {p m : ℕ} {env : List Entry} → Records a b p m env → (i q x : ℕ) → a.types i q ≡ Some x → b.types i q ≡ Some x
still_there {a} {b} {p} {m} r i q x e = at (a.item == i && p == q) refl
  where
    at : (t : Bool) → (a.item == i && p == q) ≡ t → b.types i q ≡ Some x
    at true f =
        let both = and_cases (a.item == i) (p == q) f in
        let here : a.types i q ≡ a.types a.item p = (λ k. a.types (sym (eqb-true a.item i both.0) k) (sym (eqb-true p q both.1) k)) in
        absurd (let none : a.types i q ≡ None = here ∙ r.none in cc)
    at false f = r.types i q ∙ ap (λ t. if t then Some m else a.types i q) f ∙ e

-- what was noted is so still, with the same type
pub records_keep : {a b : Sight} {p m : ℕ} {env : List Entry} → Records a b p m env → Keeps a b
records_keep {a} {b} {p} {m} r = record { noted = r.noted; scopes = r.scopes; same = same; recorded = still_there r }
  where
    same : (i q : ℕ) → a.noted i q ≡ true → b.types i q ≡ a.types i q
    same i q h = at (a.item == i && p == q) refl
      where
        at : (t : Bool) → (a.item == i && p == q) ≡ t → b.types i q ≡ a.types i q
        at true f =
            let both = and_cases (a.item == i) (p == q) f in
            absurd (no_yes (sym r.fresh ∙ (λ k. a.noted (eqb-true a.item i both.0 k) (eqb-true p q both.1 k)) ∙ h))
        at false f = r.types i q ∙ ap (λ t. if t then Some m else a.types i q) f

-- where a node is recorded everything stays
pub records_stay : {F : Frame} {G : Letters} {a b : Sight} {p m : ℕ} {env : List Entry} → Records a b p m env → IsNode a.nodes m → Stays F a G b G
records_stay {F} {G} {a} {b} {p} {m} r node = record {
  longer = let e : length b.nodes ≡ length a.nodes = ap length r.nodes in omega arith;
  loose = λ V h. subst (λ ns. Loose ns V) r.nodes h;
  reads = λ V h. subst (λ ns. IsReading ns V) r.nodes h;
  reaches = reaches;
  writes = written_next r.written reaches refines;
  refines = refines;
  recorded = still_there r;
  keeps = records_keep r;
  written = λ x n e. r.written x ∙ e;
  given = λ V ch h. h;
  opens = copied_same G;
  inside = λ h. record {
    recorded = λ i q x e. subst (λ ns. IsNode ns x) (sym r.nodes) (elim (now_or_before r i q x e) [ inl (_, _, one) ↦ subst (IsNode a.nodes) one node | inr f ↦ h.recorded i q x f ]);
    written = λ x n e. subst (λ ns. IsNode ns n) (sym r.nodes) (h.written x n (sym (r.written x) ∙ e));
    given = subst (AreNodes G) (sym r.nodes) h.given;
  };
  aloud = r.aloud;
  item = r.item;
  level = r.level;
  fixed = r.fixed;
}
  where
    reaches : Reaches F a → Reaches F b
    reaches = reaches_same r.nodes r.level (λ x n e. r.written x ∙ e)

    refines : Reaches F a → (K : Types) → IsOwn b.nodes K → Refines a.nodes b.nodes K
    refines reached K own = subst (λ ns. Refines ns b.nodes K) r.nodes (refines_none b.nodes K own)

-- the node has a type in any case
pub ends_same : (n : ℕ) (type : Choice → Typ) → EndsAs n type (λ c. same (c.chosen.type_at n) (type c.chosen) ∷ [])
ends_same n type = record {
  gives = λ c t h e. h.0 ∙ e;
  holds = λ c e. (e, tt);
  silent = λ c. refl;
  silent_first = first;
  reports_none = λ c. refl;
  treats = λ c. refl;
}
  where
    first : (k : ℕ) (c : Context) → judgements c.kept (take k (same (c.chosen.type_at n) (type c.chosen) ∷ [])) ≡ []
    first zero c = refl
    first (suc k) c = ap (judgements c.kept) (take_none k)

-- the row's type is what the choice has for the node
pub ends_own : (n : ℕ) → EndsAs n (λ ch. ch.type_at n) (λ c. [])
ends_own n = record {
  gives = λ c t h e. e;
  holds = λ c e. tt;
  silent = λ c. refl;
  silent_first = λ k c. ap (judgements c.kept) (take_none k);
  reports_none = λ c. refl;
  treats = λ c. refl;
}

-- the node is noted with its type
pub records_note : {a b : Sight} {n p m : ℕ} {env : List Entry} → number_in a.item p ≡ n → Records a b p m env → NotesRow a b n m
records_note {a} {b} {n} {p} {m} number r = record { place = p; number = sym number; keeps = records_keep r; none = r.fresh; untyped = r.none; now = r.now; only = λ k e. sym (one_some m k (sym (here_now r) ∙ e)) }

-- A whole row: what its node tells first, what it asks, and that its node has its type, where the type is recorded. The row's own letters are hidden then.
pub row_recorded : {F : Frame} {scope : Scope} {asks ends : Asks} {type : Choice → Typ} {a b d : Sight} {G : Letters} (own : Letters) (n : ℕ) {p m : ℕ} {env : List Entry} → number_in b.item p ≡ n → (row : CarriedTo F scope asks a G b (own ++ G) type m) → EndsAs n type ends →
    Records b d p m env → SeesScope F scope a G env → (F.known ≡ true → Owns n m b row.carried.hidden own) → CarriedTo F scope (λ c. tell_typed n c ++ (asks c ++ ends c)) a G d G (λ ch. ch.type_at n) m
row_recorded {F} {scope} {asks} {ends} {type} {a} {b} {d} {G} own n {p} {m} {env} number row end r sees owned = record {
  carried = record {
    stays = stays_closed own (stays_trans it.stays (recorded (own ++ G)));
    hidden = it.hidden ++ mine;
    settled = settles_closed it.hidden own (settles_on it.hidden (records_keep r) it.settled);
    clear = λ known placed.
        let clear = it.clear known (placed_before (records_keep r) placed) in
        sure_marked it.hidden clear (owns_sure it.hidden it.stays.keeps it.settled placed clear (records_note number r) (owned known));
    judged = it.judged;
    told = it.told;
    reports = r.reports ∙ it.reports;
    counted = it.counted;
    sound = sound;
    follows = follows;
    complete = complete;
    first = first;
    stops = stops;
  };
  means = record { open_node = open_on (recorded (own ++ G)) row.means.open_node; is = λ V ch loose g. at_node V ch g };
}
  where
    it : Carried F scope asks a G b (own ++ G)
    it = row.carried

    test : Key × ℕ → Bool
    test = is_sure a d (it.hidden ++ own)

    -- the row's own letters, with a doubt where they may be those of another row
    mine : Letters
    mine = marked test own

    recorded : (H : Letters) → Stays F b H d H
    recorded H = records_stay r row.means.open_node.inside

    -- what was open or hidden is hidden then, or open still
    copies : AreCopied (it.hidden ++ (own ++ G)) ((it.hidden ++ mine) ++ G)
    copies = copied_parts it.hidden (own ++ G) ((it.hidden ++ mine) ++ G) (λ k x e. copy_first (it.hidden ++ mine) G (copy_first it.hidden mine (copy_itself it.hidden k x e)))
        (copied_parts own G ((it.hidden ++ mine) ++ G) (λ k x e. copy_first (it.hidden ++ mine) G (copy_second it.hidden mine (marked_copy test own k x e))) (copied_after (it.hidden ++ mine) G))

    stops : AreStops F scope (λ c. tell_typed n c ++ (asks c ++ ends c)) a G d ((it.hidden ++ mine) ++ G) it.judged it.told
    stops k s e kind =
        let here = stop_silent ends it (recorded (own ++ G)) (it.stops k s e kind) in
        stop_cons (λ c. treated n c.env) (treated_silent n) (stop_cons (λ c. known (c.chosen.type_at n)) (known_silent n) (stop_end (lasts_same d (it.hidden ++ (own ++ G)) ((it.hidden ++ mine) ++ G) copies) here))

    at_node : {H : Letters} (V : Types) (ch : Choice) → Agrees F.owner d H V ch → ch.type_at n ≡ V m
    at_node V ch g = ap ch.type_at (sym number) ∙ g.recorded b.item p m (here_now r)

    sound : Reaches F a → (V : Types) (c : Context) → (l : ReadsOff F scope d G (it.hidden ++ mine) it.judged V c) → Meets (IsSeen l.scopes l.types V) c.kept (tell_typed n c ++ (asks c ++ ends c)) it.judged it.told
    sound reached V c l =
        let g : Agrees F.owner b (own ++ G) V c.chosen = record {
          recorded = λ i q x e. l.agrees.recorded i q x (still_there r i q x e);
          known = λ i q x e. l.agrees.known i q x (still_there r i q x e);
          written = λ x y e. l.agrees.written x y (r.written x ∙ e);
          given = given_both V c.chosen own G (given_unmarked test own V c.chosen (given_right V c.chosen it.hidden mine l.hidden_too)) l.agrees.given;
        } in
        let meets = it.sound reached V c (record {
          under = l.under;
          reads = (recorded G).reads V l.reads;
          agrees = g;
          hidden_too = given_left V c.chosen it.hidden mine l.hidden_too;
          named = named_before scope (recorded G) l.named;
          unbound = bounds_before scope c.chosen (recorded G) (it.stays.reaches reached) l.unbound;
          kept = l.kept;
          scopes = l.scopes;
          in_the_end = λ i q names h. l.in_the_end i q names (r.scopes i q names h);
          types = l.types;
          types_too = λ i k m h. l.types_too i k m (still_there r i k m h);
        }) in
        let here = at_node V c.chosen l.agrees in
        let before = (recorded G).reads V l.reads in
        let stand = sees V c.chosen (it.stays.reads V before) (agrees_before it.stays g) (named_before scope it.stays (named_before scope (recorded G) l.named)) (bounds_before scope c.chosen it.stays reached (bounds_before scope c.chosen (recorded G) (it.stays.reaches reached) l.unbound)) in
        let typed = row.means.is V c.chosen (fits_loosely b.nodes V ((recorded G).reads V l.reads).fits) g in
        record {
          same = judged_both c.kept (asks c) (ends c) ∙ ap (λ js. judgements c.kept (asks c) ++ js) (end.silent c) ∙ append-nil (judgements c.kept (asks c)) ∙ meets.same;
          holds = (tt, (subst IsKnown (sym here) (l.agrees.known b.item p m (here_now r)), hold_both c.kept (asks c) (ends c) meets.holds (end.holds c (here ∙ sym typed))));
          tells = subst (TellAll c.kept (asks c ++ ends c)) (append-nil it.told) (tell_both c.kept (asks c) (ends c) it.told [] meets.tells (end.reports_none c));
          sees = (
            record { item = b.item; place = p; number = sym number; env = env; at = l.in_the_end b.item p env r.scope; stands = subst (StandsFor V env) (sym l.under.env) stand; typed = λ told. (m, l.types_too b.item p m (here_now r)) },
            seen_both (IsSeen l.scopes l.types V) (asks c) (ends c) (start_none (ends c) (end.treats c)) meets.sees (seen_none (IsSeen l.scopes l.types V) (ends c) (end.treats c)),
          );
          starts = refl;
        }

    follows : Reaches F a → (V : Types) (c : Context) → ReadsOff F scope d G (it.hidden ++ mine) [] V c → Follows c.kept (tell_typed n c ++ (asks c ++ ends c)) it.judged
    follows reached V c l =
        subst (Follows c.kept (asks c ++ ends c)) (append-nil it.judged)
        (follows_both c.kept (asks c) (ends c) it.judged []
        (it.follows reached V c (record {
          under = l.under;
          reads = (recorded G).reads V l.reads;
          agrees = record {
            recorded = λ i q x e. l.agrees.recorded i q x (still_there r i q x e);
            known = λ i q x e. l.agrees.known i q x (still_there r i q x e);
            written = λ x y e. l.agrees.written x y (r.written x ∙ e);
            given = given_both V c.chosen own G (given_unmarked test own V c.chosen (given_right V c.chosen it.hidden mine l.hidden_too)) l.agrees.given;
          };
          hidden_too = given_left V c.chosen it.hidden mine l.hidden_too;
          named = named_before scope (recorded G) l.named;
          unbound = bounds_before scope c.chosen (recorded G) (it.stays.reaches reached) l.unbound;
          kept = tt;
          scopes = l.scopes;
          in_the_end = λ i q names h. l.in_the_end i q names (r.scopes i q names h);
          types = l.types;
          types_too = λ i k m h. l.types_too i k m (still_there r i k m h);
        }))
        (λ kept. follows_silent c.kept (ends c) (end.silent c)))

    goes : (V : Types) (c : Context) → IsKnown (c.chosen.type_at n) → AllHold c.kept (ends c) → (on : Continues F asks a b (own ++ G) it.hidden it.judged V c) → GoesOn F a d G V on.types c.chosen
    goes V c is_known h on =
        let g = on.on.agrees in
        let here = end.gives c (on.types m) h (row.means.is on.types c.chosen (fits_loosely b.nodes on.types on.on.fits) g) in
        record {
          fits = subst (λ ns. Fits ns on.types) (sym r.nodes) on.on.fits;
          before = on.on.before;
          agrees = record {
            recorded = λ i q x f. elim (now_or_before r i q x f) [
              | inl (item, place, one) ↦ (λ k. c.chosen.type_at (number_in (sym item k) (sym place k))) ∙ ap c.chosen.type_at number ∙ here ∙ ap on.types one
              | inr h ↦ g.recorded i q x h
            ];
            known = λ i q x f. elim (now_or_before r i q x f) [ inl (item, place, one) ↦ subst IsKnown (here ∙ ap on.types one) is_known | inr h ↦ g.known i q x h ];
            written = λ x y e. g.written x y (sym (r.written x) ∙ e);
            given = given_right on.types c.chosen own G g.given;
          };
        }

    hidden_after : (V : Types) (c : Context) → Enters F scope a G V c → (on : Continues F asks a b (own ++ G) it.hidden it.judged V c) → AreHidden (it.hidden ++ mine) d on.types c.chosen
    hidden_after V c e on = let (nodes, given) = hidden_more test it.hidden own G b c.chosen on.types (it.stays.inside e.inside).given on.on.agrees.given on.hidden_too in (subst (AreNodes (it.hidden ++ mine)) (sym r.nodes) nodes, given)

    -- with what the row asks at its end nothing more is judged
    judged_ends : (c : Context) (cs : List Condition) → judgements c.kept cs ≡ [] → judgements c.kept (asks c ++ cs) ≡ judgements c.kept (asks c)
    judged_ends c cs e = judged_both c.kept (asks c) cs ∙ ap (λ js. judgements c.kept (asks c) ++ js) e ∙ append-nil (judgements c.kept (asks c))

    complete : HoldsWritten scope d → (V : Types) (c : Context) → Enters F scope a G V c → AllHold c.kept (tell_typed n c ++ (asks c ++ ends c)) →
        Continues F (λ x. tell_typed n x ++ (asks x ++ ends x)) a d G (it.hidden ++ mine) it.judged V c ⊎ FallsShort (judgements c.kept (asks c ++ ends c)) it.judged
    complete named V c e h = elim (it.complete (named_before scope (recorded G) named) V c e (hold_left c.kept (asks c) (ends c) h.1.1)) [
      | inl on ↦ inl (record { same = judged_ends c (ends c) (end.silent c) ∙ on.same; types = on.types; on = goes V c h.1.0 (hold_right c.kept (asks c) (ends c) h.1.1) on; hidden_too = hidden_after V c e on })
      | inr short ↦ inr (subst (λ js. FallsShort js it.judged) (sym (judged_ends c (ends c) (end.silent c))) short)
    ]

    -- the first of what the row asks, and of its end
    first_of : HoldsWritten scope d → (k : ℕ) (V : Types) (c : Context) → Enters F scope a G V c → AllHold c.kept (take k (asks c ++ ends c)) → (k ≤ length (asks c)) ⊎ ((i : ℕ) × (k ≡ length (asks c) + i)) → Decides c it.judged (take k (asks c ++ ends c))
    first_of named k V c e h (inl le) =
        let here = take-append-le k (asks c) (ends c) le in
        subst (Decides c it.judged) (sym here) (it.first (named_before scope (recorded G) named) k V c e (subst (AllHold c.kept) here h))
    first_of named k V c e h (inr (i, eq)) =
        let here = ap (λ j. take j (asks c ++ ends c)) eq ∙ take-append-add (asks c) (ends c) i in
        let judged = judged_ends c (take i (ends c)) (end.silent_first i c) in
        subst (Decides c it.judged) (sym here) (elim (it.complete (named_before scope (recorded G) named) V c e (hold_left c.kept (asks c) (take i (ends c)) (subst (AllHold c.kept) here h))) [
          | inl on ↦ inl (subst (StartsWith it.judged) (sym (judged ∙ on.same)) (starts_all it.judged))
          | inr short ↦ inr (subst (λ js. FallsShort js it.judged) (sym judged) short)
        ])

    first : HoldsWritten scope d → (k : ℕ) (V : Types) (c : Context) → Enters F scope a G V c → AllHold c.kept (take k (tell_typed n c ++ (asks c ++ ends c))) → Decides c it.judged (take k (tell_typed n c ++ (asks c ++ ends c)))
    first named zero V c e h = inl (starts_none it.judged)
    first named (suc zero) V c e h = inl (starts_none it.judged)
    first named (suc (suc k)) V c e h = first_of named k V c e h.1.1 (less_or_more k (length (asks c)))

-- What is recorded by the end of some conditions may be told at their start: the node is treated there, and asks nothing more.
unfoldable pub told_at : {F : Frame} {scope : Scope} {asks : Asks} {a b : Sight} {G H : Letters} (n : ℕ) {i p : ℕ} {env : List Entry} → n ≡ number_in i p → Carried F scope asks a G b H → b.scopes i p ≡ Some env → SeesScope F scope a G env →
    Carried F scope (λ c. tell n c ++ asks c) a G b H
told_at {F} {scope} {asks} {a} {b} {G} {H} n {i} {p} {env} number it there sees = record {
  stays = it.stays;
  hidden = it.hidden;
  settled = it.settled;
  clear = it.clear;
  judged = it.judged;
  told = it.told;
  reports = it.reports;
  counted = it.counted;
  sound = λ r V c l.
      let meets = it.sound r V c l in
      let stand = sees V c.chosen (it.stays.reads V l.reads) (agrees_before it.stays l.agrees) (named_before scope it.stays l.named) (bounds_before scope c.chosen it.stays r l.unbound) in
      record {
        same = meets.same;
        holds = (tt, meets.holds);
        tells = meets.tells;
        sees = (record { item = i; place = p; number = number; env = env; at = l.in_the_end i p env there; stands = subst (StandsFor V env) (sym l.under.env) stand; typed = λ told. absurd (no_yes (sym meets.starts ∙ told)) }, meets.sees);
        starts = refl;
      };
  follows = it.follows;
  complete = λ named V c e h. elim (it.complete named V c e h.1) [
    | inl on ↦ inl (record { same = on.same; types = on.types; on = on.on; hidden_too = on.hidden_too })
    | inr short ↦ inr short
  ];
  first = first;
  stops = λ k s e kind. stop_cons (λ c. treated n c.env) (treated_silent n) (it.stops k s e kind);
}
  where
    first : HoldsWritten scope b → (k : ℕ) (V : Types) (c : Context) → Enters F scope a G V c → AllHold c.kept (take k (tell n c ++ asks c)) → Decides c it.judged (take k (tell n c ++ asks c))
    first named zero V c e h = inl (starts_none it.judged)
    first named (suc k) V c e h = it.first named k V c e h.1

-- it hides the same
pub told_hides : {F : Frame} {scope : Scope} {asks : Asks} {a b : Sight} {G H : Letters} (n : ℕ) {i p : ℕ} {env : List Entry} (number : n ≡ number_in i p) (it : Carried F scope asks a G b H) (there : b.scopes i p ≡ Some env) (sees : SeesScope F scope a G env) →
    (told_at n number it there sees).hidden ≡ it.hidden
unfolding told_at
told_hides n number it there sees = refl
