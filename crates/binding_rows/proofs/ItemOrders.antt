-- What is carried of items, one after the other.
use Rattle.std.proofs.Common.{◌<◌, ◌≡◌, ◌∙◌, ◌⊎◌, inl, inr, ℕ, zero, suc, ◌+◌, ◌≤◌, true, List, [], ◌∷◌, ◌++◌, take, length, refl, sym, ap, subst, arith, append-nil, false, Some}
use Rattle.std.specs.Prelude.{slice_get}
use Rattle.std.proofs.lemmas.List.{take-append-le}
use Rattle.std.proofs.Math.Seq.{take-append-add}
use Rattle.type_model.specs.Types.{Typ as type}
use Rattle.signature_model.specs.Entries.{Environment}
use Rattle.typing_laws.proofs.Bools.{no_yes}
use Rattle.typing_model.specs.Demands.{Condition, AllHold, treated}
use Rattle.typing_model.specs.Contexts.{Choice, Context, under}
use Rattle.type_nodes.specs.Nodes.{IsSound}
use Rattle.type_nodes.specs.Readings.{Types, Fits, IsReading}
use Rattle.level_unify.specs.Solutions.{Loose}
use Rattle.level_unify.proofs.Unified.{fits_loosely}
use Rattle.env_table.specs.declared.entries.Entry.{Entry}
use Rattle.typing_conditions.specs.Locals.{IsOwn, Refines, IsContext}
use Rattle.typing_conditions.specs.Assumptions.{SchemeFits, SchemeReads}
use Rattle.typing_conditions.specs.Environments.{no_names as no_entries}
use Rattle.typing_conditions.specs.Declared.{DeclaredAs, ExceptionAs}
use Rattle.typing_conditions.specs.Standing.{IsIn, Covers, Stands}
use Rattle.typing_conditions.proofs.Own.{own_of}
use Rattle.typing_conditions.proofs.Environments.{env_map}
use Rattle.typing_conditions.specs.Sights.{number_in, Scopes, Recorded, Sight, Report, Letters}
use Rattle.typing_conditions.specs.Seeing.{StandsFor, IsSeen}
use Rattle.typing_conditions.specs.Judging.{Judgement, Meets, TellAll, starts_known, AllSeen, AnySeen, AreKept, Follows, judgements, StartsWith, FallsShort}
use Rattle.typing_conditions.specs.Carrying.{Asks}
use Rattle.typing_conditions.specs.Surroundings.{Declared, IsSteady, KnowsNames}
use Rattle.typing_conditions.proofs.Judged.{starts_both, hold_both, hold_left, hold_right, judged_both, counted_both, kept_left, kept_right, tell_both, follows_both, short_left, short_right, starts_all, starts_left, starts_right, short_of_more, judged_kept, any_seen, seen_both}
use Rattle.typing_conditions.proofs.Carried.{Decides, take_none, less_or_more}
use Rattle.typing_conditions.proofs.First.{starts_none}
use Rattle.typing_conditions.proofs.Surrounding.{vars_apart}
use Rattle.typing_model.specs.Parts.{Item, Seen, no_names, seen_too}
use Rattle.typing_model.specs.Items.{items_ask, behind_items, seen_names}
use Rattle.typing_state.specs.declared.parts.Parts.{Parts}
use Rattle.typing_steps.specs.States.{sight}
use Rattle.typing_steps.specs.Constants.{HasConstants}
use Rattle.typing_rows.specs.Noted.{AreNoted}
use Rattle.binding_rows.specs.ItemRows.{AreOwned, none_owned, leaves_none, leaves_types, leaves_one, ItemDone, ItemsDone, recorded_idle}
use Rattle.typing_conditions.proofs.Stops.{get_cases, treated_silent}
use Rattle.binding_rows.specs.Stopped.{StopsItems}
use Rattle.binding_rows.proofs.ItemStops.{item_stop_first, item_stop_then, item_stop_after, item_stop_between, item_stop_as, item_stop_cons}
use Rattle.binding_rows.proofs.ItemsLeft.{left_earlier, left_first, left_second, stays_both, letters_both, left_both, decided_both, IsNext}
pub use Rattle.binding_rows.proofs.ItemsLeft.{agrees_earlier, stays_between, append_assoc}
use Rattle.binding_rows.specs.Outside.{Lasts, AgreesOutside, AreMet, InEachMet, Outside, Left, letters_left, EntersItems, ReadsItems, ContinuesItems, StaysOutside, OnlyBetween, ItemsCarried, SeesItems}
use Rattle.typing_conditions.specs.Hiding.{Keeps, HasCopy, NoneDoubtful, Settles}
use Rattle.typing_conditions.proofs.Hiding.{none_doubtful, none_both, placed_before, copy_itself, copy_of, copy_first, copy_second, keeps_same, keeps_both, settles_none, settles_both, settles_as}

-- Items after others are carried where they are what is asked next.
pub items_trans : {E E' : Choice → Environment} {asks rest further : Asks} {a b c : Sight} {G H K : Letters} (after : Context → Environment) (p : ItemsCarried E asks a G b H) → InEachMet E asks b H p.judged (IsNext E' rest further after) → IsSound a.nodes → ItemsCarried E' further b H c K →
    ItemsCarried E (λ x. asks x ++ rest x) a G c K
items_trans {E} {E'} {asks} {rest} {further} {a} {b} {c} {G} {H} {K} after p next sound q = record {
  stays = stays_both sound p.stays q.stays;
  left = p.left ++ q.left;
  opened = λ k x e. elim (q.opened k x e) [
    | inl h ↦ elim (p.opened h.place h.entry h.at) [ inl before ↦ inl (copy_of h before) | inr left ↦ inr (subst (λ xs. HasCopy xs x) (sym (letters_both p.left q.left)) (copy_first (letters_left p.left) (letters_left q.left) (copy_of h left))) ]
    | inr left ↦ inr (subst (λ xs. HasCopy xs x) (sym (letters_both p.left q.left)) (copy_second (letters_left p.left) (letters_left q.left) left))
  ];
  settled = subst (Settles a c) (sym (letters_both p.left q.left)) (settles_both (letters_left p.left) (letters_left q.left) p.stays.keeps q.stays.keeps p.settled q.settled);
  judged = p.judged ++ q.judged;
  told = p.told ++ q.told;
  reports = q.reports ∙ ap (λ rs. rs ++ q.told) p.reports ∙ append_assoc a.reports p.told q.told;
  counted = counted_both p.judged q.judged p.told q.told p.counted q.counted;
  sound = λ V x l.
      let one = p.sound V x (record {
        env = l.env;
        reads = q.stays.reads V l.reads;
        agrees = agrees_earlier q.stays l.agrees;
        left_too = left_earlier b.nodes c.nodes p.left V x.chosen q.stays.bounds (left_first c.nodes p.left q.left V x.chosen l.left_too);
        kept = kept_left x.kept p.judged q.judged l.kept;
      }) in
      let comes = next V x l.env (q.stays.loose V (fits_loosely c.nodes V l.reads.fits)) (agrees_earlier q.stays l.agrees) (record { kept = kept_left x.kept p.judged q.judged l.kept; holds = one.holds }) in
      let two = subst (λ cs. Meets AnySeen x.kept cs q.judged q.told) (sym comes.asks) (q.sound V (into x) (record {
        env = comes.env;
        reads = l.reads;
        agrees = l.agrees;
        left_too = left_second c.nodes p.left q.left V x.chosen l.left_too;
        kept = kept_right x.kept p.judged q.judged l.kept;
      })) in
      record {
        same = judged_both x.kept (asks x) (rest x) ∙ ap (λ js. js ++ judgements x.kept (rest x)) one.same ∙ ap (λ js. p.judged ++ js) two.same;
        holds = hold_both x.kept (asks x) (rest x) one.holds two.holds;
        tells = tell_both x.kept (asks x) (rest x) p.told q.told one.tells two.tells;
        sees = any_seen (asks x ++ rest x);
        starts = starts_both (asks x) (rest x) one.starts two.starts;
      };
  follows = λ V x l. follows_both x.kept (asks x) (rest x) p.judged q.judged (p.follows V x (earlier V x l tt)) (λ kept.
      let one = p.sound V x (earlier V x l kept) in
      let comes = next V x l.env (q.stays.loose V (fits_loosely c.nodes V l.reads.fits)) (agrees_earlier q.stays l.agrees) (record { kept = kept; holds = one.holds }) in
      subst (λ cs. Follows x.kept cs q.judged) (sym comes.asks) (q.follows V (into x) (record { env = comes.env; reads = l.reads; agrees = l.agrees; left_too = left_second c.nodes p.left q.left V x.chosen l.left_too; kept = tt })));
  complete = λ V x e h. elim (p.complete V x e (hold_left x.kept (asks x) (rest x) h)) [
    | inl goes ↦ then_complete V x goes (comes_next V x e goes (hold_left x.kept (asks x) (rest x) h)) e (hold_right x.kept (asks x) (rest x) h)
    | inr short ↦ inr (falls_first x (rest x) short)
  ];
  first = λ k V x e h. by_place k V x e h (less_or_more k (length (asks x)));
}
  where
    into : Context → Context
    into x = under (after x) x

    -- what is read off after the others is read off after the first ones
    earlier : (V : Types) (x : Context) → ReadsItems E c K (p.left ++ q.left) [] V x → {js : List Judgement} → AreKept x.kept js → ReadsItems E b H p.left js V x
    earlier V x l kept = record {
      env = l.env;
      reads = q.stays.reads V l.reads;
      agrees = agrees_earlier q.stays l.agrees;
      left_too = left_earlier b.nodes c.nodes p.left V x.chosen q.stays.bounds (left_first c.nodes p.left q.left V x.chosen l.left_too);
      kept = kept;
    }

    -- what is asked next, where those before are met
    comes_next : (V : Types) (x : Context) → EntersItems E a G V x → ContinuesItems asks a b H p.left p.judged V x → AllHold x.kept (asks x) → IsNext E' rest further after x
    comes_next V x e goes h = next goes.types x e.env (fits_loosely b.nodes goes.types goes.fits) goes.agrees (record { kept = subst (AreKept x.kept) goes.same (judged_kept x.kept (asks x)); holds = h })

    enters_next : (V : Types) (x : Context) → EntersItems E a G V x → (goes : ContinuesItems asks a b H p.left p.judged V x) → IsNext E' rest further after x → EntersItems E' b H goes.types (into x)
    enters_next V x e goes comes = record { env = comes.env; inside = p.stays.inside e.inside; fits = goes.fits; agrees = goes.agrees }

    -- the first ones fall short
    falls_first : (x : Context) (cs : List Condition) → FallsShort (judgements x.kept (asks x)) p.judged → FallsShort (judgements x.kept (asks x ++ cs)) (p.judged ++ q.judged)
    falls_first x cs short = subst (λ js. FallsShort js (p.judged ++ q.judged)) (sym (judged_both x.kept (asks x) cs)) (short_left (judgements x.kept (asks x)) p.judged (judgements x.kept cs) q.judged short)

    -- the others fall short
    falls_then : (x : Context) (cs : List Condition) → judgements x.kept (asks x) ≡ p.judged → FallsShort (judgements x.kept cs) q.judged → FallsShort (judgements x.kept (asks x ++ cs)) (p.judged ++ q.judged)
    falls_then x cs same short = subst (λ js. FallsShort js (p.judged ++ q.judged)) (sym (judged_both x.kept (asks x) cs)) (short_right (judgements x.kept (asks x)) p.judged (judgements x.kept cs) q.judged same short)

    then_both : (V : Types) (x : Context) → (goes : ContinuesItems asks a b H p.left p.judged V x) → rest x ≡ further (into x) → ContinuesItems further b c K q.left q.judged goes.types (into x) ⊎ FallsShort (judgements x.kept (further (into x))) q.judged →
        ContinuesItems (λ y. asks y ++ rest y) a c K (p.left ++ q.left) (p.judged ++ q.judged) V x ⊎ FallsShort (judgements x.kept (asks x ++ rest x)) (p.judged ++ q.judged)
    then_both V x goes same (inl also) = inl (record {
      same = judged_both x.kept (asks x) (rest x) ∙ ap (λ js. js ++ judgements x.kept (rest x)) goes.same ∙ ap (λ js. p.judged ++ js) (ap (judgements x.kept) same ∙ also.same);
      types = also.types;
      fits = also.fits;
      before = λ n lt. also.before n (let own = own_of c.nodes (q.stays.sound (p.stays.sound sound)) in let mid = own_of b.nodes (p.stays.sound sound) in let r = (p.stays.refines mid.0 mid.1).longer in omega arith) ∙ goes.before n lt;
      agrees = also.agrees;
      left_too = left_both p.left q.left b.nodes c x.chosen goes.types also.types (let own = own_of c.nodes (q.stays.sound (p.stays.sound sound)) in (q.stays.refines own.0 own.1).longer) also.before goes.left_too also.left_too;
      decided = decided_both p.left q.left x.chosen goes.decided also.decided;
    })
    then_both V x goes same (inr short) = inr (falls_then x (rest x) goes.same (subst (λ cs. FallsShort (judgements x.kept cs) q.judged) (sym same) short))

    then_complete : (V : Types) (x : Context) → (goes : ContinuesItems asks a b H p.left p.judged V x) → IsNext E' rest further after x → EntersItems E a G V x → AllHold x.kept (rest x) →
        ContinuesItems (λ y. asks y ++ rest y) a c K (p.left ++ q.left) (p.judged ++ q.judged) V x ⊎ FallsShort (judgements x.kept (asks x ++ rest x)) (p.judged ++ q.judged)
    then_complete V x goes comes e h = then_both V x goes comes.asks (q.complete goes.types (into x) (enters_next V x e goes comes) (subst (AllHold x.kept) comes.asks h))

    then_first : (V : Types) (x : Context) (n : ℕ) → ContinuesItems asks a b H p.left p.judged V x → Decides x q.judged (take n (rest x)) → Decides x (p.judged ++ q.judged) (asks x ++ take n (rest x))
    then_first V x n goes (inl starts) = inl (subst (StartsWith (p.judged ++ q.judged)) (sym (judged_both x.kept (asks x) (take n (rest x)) ∙ ap (λ js. js ++ judgements x.kept (take n (rest x))) goes.same))
        (starts_right p.judged q.judged (judgements x.kept (take n (rest x))) starts))
    then_first V x n goes (inr short) = inr (falls_then x (take n (rest x)) goes.same short)

    first_next : (V : Types) (x : Context) (n : ℕ) → (goes : ContinuesItems asks a b H p.left p.judged V x) → IsNext E' rest further after x → EntersItems E a G V x → AllHold x.kept (take n (rest x)) → Decides x q.judged (take n (rest x))
    first_next V x n goes comes e h = subst (λ cs. Decides x q.judged (take n cs)) (sym comes.asks) (q.first n goes.types (into x) (enters_next V x e goes comes) (subst (λ cs. AllHold x.kept (take n cs)) comes.asks h))

    -- the first k conditions end among the first ones, or among the others
    by_place : (k : ℕ) (V : Types) (x : Context) → EntersItems E a G V x → AllHold x.kept (take k (asks x ++ rest x)) → (k ≤ length (asks x)) ⊎ ((n : ℕ) × (k ≡ length (asks x) + n)) → Decides x (p.judged ++ q.judged) (take k (asks x ++ rest x))
    by_place k V x e h (inl le) =
        let here = take-append-le k (asks x) (rest x) le in
        subst (Decides x (p.judged ++ q.judged)) (sym here) (elim (p.first k V x e (subst (AllHold x.kept) here h)) [
          | inl starts ↦ inl (starts_left p.judged (judgements x.kept (take k (asks x))) q.judged starts)
          | inr short ↦ inr (short_of_more (judgements x.kept (take k (asks x))) p.judged q.judged short)
        ])
    by_place k V x e h (inr (n, eq)) =
        let here = ap (λ i. take i (asks x ++ rest x)) eq ∙ take-append-add (asks x) (rest x) n in
        let held = subst (AllHold x.kept) here h in
        let before = hold_left x.kept (asks x) (take n (rest x)) held in
        subst (Decides x (p.judged ++ q.judged)) (sym here) (elim (p.complete V x e before) [
          | inl goes ↦ then_first V x n goes (first_next V x n goes (comes_next V x e goes before) e (hold_right x.kept (asks x) (take n (rest x)) held))
          | inr short ↦ inr (falls_first x (take n (rest x)) short)
        ])

-- between items nothing is asked
pub items_between : {E : Choice → Environment} {a b : Sight} {G : Letters} → OnlyBetween a b → ItemsCarried E (λ c. []) a G b G
items_between {E} {a} {b} {G} only = record {
  stays = stays_between only;
  left = [];
  opened = λ k x e. inl (copy_itself G k x e);
  settled = settles_none;
  judged = [];
  told = [];
  reports = only.reports ∙ sym (append-nil a.reports);
  counted = refl;
  sound = λ V c l. record { same = refl; holds = tt; tells = refl; sees = tt; starts = refl };
  follows = λ V c l. refl;
  complete = λ V c e h. inl (record {
    same = refl;
    types = V;
    fits = subst (λ ns. Fits ns V) (sym only.nodes) e.fits;
    before = λ n lt. refl;
    agrees = record { recorded = λ i p m f. e.agrees.recorded i p m (sym (only.types i p) ∙ f); known = λ i p m f. e.agrees.known i p m (sym (only.types i p) ∙ f); given = e.agrees.given };
    left_too = (tt, tt);
    decided = tt;
  });
  first = λ k V c e h. inl (subst (λ cs. StartsWith [] (judgements c.kept cs)) (sym (take_none k)) (starts_all []));
}

-- Between items, and then the next ones.
pub items_then : {E : Choice → Environment} {asks : Asks} {a b c : Sight} {G H : Letters} → OnlyBetween a b → ItemsCarried E asks b G c H → ItemsCarried E asks a G c H
items_then {E} {asks} {a} {b} {c} {G} {H} only p = record {
  stays = record {
    sound = λ s. p.stays.sound (start.sound s);
    loose = λ V h. start.loose V (p.stays.loose V h);
    reads = λ V h. start.reads V (p.stays.reads V h);
    refines = λ M own. subst (λ ns. Refines ns c.nodes M) only.nodes (p.stays.refines M own);
    bounds = λ v h. p.stays.bounds v (start.bounds v h);
    recorded = λ i k m e. p.stays.recorded i k m (start.recorded i k m e);
    keeps = keeps_both start.keeps p.stays.keeps;
    given = p.stays.given;
    inside = λ i. p.stays.inside (start.inside i);
    aloud = p.stays.aloud ∙ only.aloud;
    level = p.stays.level ∙ only.level;
    fixed = p.stays.fixed ∙ only.fixed;
  };
  left = p.left;
  opened = p.opened;
  settled = settles_as (letters_left p.left) start.keeps keeps_same p.settled;
  judged = p.judged;
  told = p.told;
  reports = p.reports ∙ ap (λ rs. rs ++ p.told) only.reports;
  counted = p.counted;
  sound = p.sound;
  follows = p.follows;
  complete = λ V x e h. elim (p.complete V x (enters V x e) h) [
    | inl goes ↦ inl (record { same = goes.same; types = goes.types; fits = goes.fits; before = λ m lt. goes.before m (subst (λ ns. m < length ns) (sym only.nodes) lt); agrees = goes.agrees; left_too = goes.left_too; decided = goes.decided })
    | inr short ↦ inr short
  ];
  first = λ k V x e h. p.first k V x (enters V x e) h;
}
  where
    start : StaysOutside a G b G
    start = stays_between only

    enters : (V : Types) (x : Context) → EntersItems E a G V x → EntersItems E b G V x
    enters V x e = record {
      env = e.env;
      inside = start.inside e.inside;
      fits = subst (λ ns. Fits ns V) (sym only.nodes) e.fits;
      agrees = record { recorded = λ i k m f. e.agrees.recorded i k m (sym (only.types i k) ∙ f); known = λ i k m f. e.agrees.known i k m (sym (only.types i k) ∙ f); given = e.agrees.given };
    }

-- the conditions may be written in another way
pub items_as : {E : Choice → Environment} {asks others : Asks} {a b : Sight} {G H : Letters} → ((x : Context) → asks x ≡ others x) → ItemsCarried E asks a G b H → ItemsCarried E others a G b H
items_as {E} {asks} {others} {a} {b} {G} {H} same p = record {
  stays = p.stays;
  left = p.left;
  opened = p.opened;
  settled = p.settled;
  judged = p.judged;
  told = p.told;
  reports = p.reports;
  counted = p.counted;
  sound = λ V x l. subst (λ cs. Meets AnySeen x.kept cs p.judged p.told) (same x) (p.sound V x l);
  follows = λ V x l. subst (λ cs. Follows x.kept cs p.judged) (same x) (p.follows V x l);
  complete = λ V x e h. elim (p.complete V x e (subst (AllHold x.kept) (sym (same x)) h)) [
    | inl goes ↦ inl (record { same = ap (judgements x.kept) (sym (same x)) ∙ goes.same; types = goes.types; fits = goes.fits; before = goes.before; agrees = goes.agrees; left_too = goes.left_too; decided = goes.decided })
    | inr short ↦ inr (subst (λ cs. FallsShort (judgements x.kept cs) p.judged) (same x) short)
  ];
  first = λ k V x e h. subst (λ cs. Decides x p.judged (take k cs)) (same x) (p.first k V x e (subst (λ cs. AllHold x.kept (take k cs)) (sym (same x)) h));
}

-- What is seen of items is seen of them however their conditions are written.
pub sees_as : {E : Choice → Environment} {asks others : Asks} {a b : Sight} {G H : Letters} (same : (x : Context) → asks x ≡ others x) (p : ItemsCarried E asks a G b H) → SeesItems E asks b H p.left p.judged → SeesItems E others b H (items_as same p).left (items_as same p).judged
unfolding items_as
sees_as same p sees V x l scopes types inside = subst (AllSeen (IsSeen scopes types V)) (same x) (sees V x l scopes types inside)

-- what was recorded before is recorded in the end
pub lasts_before : {a b : Sight} {scopes : Scopes} {types : Recorded} → Keeps a b → Lasts b scopes types → Lasts a scopes types
lasts_before keeps inside = record { names = λ i k env h. inside.names i k env (keeps.scopes i k env h); nodes = λ i k m h. inside.nodes i k m (keeps.recorded i k m h) }

-- And what is seen of items and of those after them is seen of all.
pub sees_trans : {E E' : Choice → Environment} {asks rest further : Asks} {a b c : Sight} {G H K : Letters} (after : Context → Environment) (p : ItemsCarried E asks a G b H) (next : InEachMet E asks b H p.judged (IsNext E' rest further after)) (sound : IsSound a.nodes) (q : ItemsCarried E' further b H c K) →
    SeesItems E asks b H p.left p.judged → SeesItems E' further c K q.left q.judged → SeesItems E (λ x. asks x ++ rest x) c K (items_trans after p next sound q).left (items_trans after p next sound q).judged
unfolding items_trans
sees_trans {E} {E'} {asks} {rest} {further} {a} {b} {c} {G} {H} {K} after p next sound q first second V x l scopes types inside =
    let earlier : ReadsItems E b H p.left p.judged V x = record {
      env = l.env;
      reads = q.stays.reads V l.reads;
      agrees = agrees_earlier q.stays l.agrees;
      left_too = left_earlier b.nodes c.nodes p.left V x.chosen q.stays.bounds (left_first c.nodes p.left q.left V x.chosen l.left_too);
      kept = kept_left x.kept p.judged q.judged l.kept;
    } in
    let comes = next V x l.env (q.stays.loose V (fits_loosely c.nodes V l.reads.fits)) (agrees_earlier q.stays l.agrees) (record { kept = earlier.kept; holds = (p.sound V x earlier).holds }) in
    let here : ReadsItems E' c K q.left q.judged V (under (after x) x) = record {
      env = comes.env;
      reads = l.reads;
      agrees = l.agrees;
      left_too = left_second c.nodes p.left q.left V x.chosen l.left_too;
      kept = kept_right x.kept p.judged q.judged l.kept;
    } in
    let starts = ap starts_known comes.asks ∙ (q.sound V (under (after x) x) here).starts in
    seen_both (IsSeen scopes types V) (asks x) (rest x) starts (first V x earlier scopes types (lasts_before q.stays.keeps inside)) (subst (AllSeen (IsSeen scopes types V)) (sym comes.asks) (second V (under (after x) x) here scopes types inside))

-- Where items stop is where they stop however their conditions are written.
pub stops_as : {E : Choice → Environment} {asks others : Asks} {a b : Sight} {G H : Letters} (same : (x : Context) → asks x ≡ others x) (p : ItemsCarried E asks a G b H) → StopsItems E asks a G b H p.left p.judged p.told → StopsItems E others a G b H (items_as same p).left (items_as same p).judged (items_as same p).told
unfolding items_as
stops_as same p stops V c l k r e kind = item_stop_as same (stops V c l k r e kind)

-- and where they start after nothing else than what changes between items
pub stops_between : {E : Choice → Environment} {asks : Asks} {a b c : Sight} {G H : Letters} (only : OnlyBetween a b) (p : ItemsCarried E asks b G c H) → StopsItems E asks b G c H p.left p.judged p.told → StopsItems E asks a G c H (items_then only p).left (items_then only p).judged (items_then only p).told
unfolding items_then
stops_between only p stops V c l k r e kind = item_stop_between only (stops V c l k r e kind)

-- Where items stop and those after them, all stop.
pub stops_trans : {E E' : Choice → Environment} {asks rest further : Asks} {a b c : Sight} {G H K : Letters} (after : Context → Environment) (p : ItemsCarried E asks a G b H) (next : InEachMet E asks b H p.judged (IsNext E' rest further after)) (sound : IsSound a.nodes) (q : ItemsCarried E' further b H c K) →
    StopsItems E asks a G b H p.left p.judged p.told → StopsItems E' further b H c K q.left q.judged q.told → StopsItems E (λ x. asks x ++ rest x) a G c K (items_trans after p next sound q).left (items_trans after p next sound q).judged (items_trans after p next sound q).told
unfolding items_trans
stops_trans {E} {E'} {asks} {rest} {further} {a} {b} {c} {G} {H} {K} after p next sound q first second V x l k r e kind =
    let earlier : ReadsItems E b H p.left p.judged V x = record {
      env = l.env;
      reads = q.stays.reads V l.reads;
      agrees = agrees_earlier q.stays l.agrees;
      left_too = left_earlier b.nodes c.nodes p.left V x.chosen q.stays.bounds (left_first c.nodes p.left q.left V x.chosen l.left_too);
      kept = kept_left x.kept p.judged q.judged l.kept;
    } in
    let comes = next V x l.env (q.stays.loose V (fits_loosely c.nodes V l.reads.fits)) (agrees_earlier q.stays l.agrees) (record { kept = earlier.kept; holds = (p.sound V x earlier).holds }) in
    let here : ReadsItems E' c K q.left q.judged V (under (after x) x) = record {
      env = comes.env;
      reads = l.reads;
      agrees = l.agrees;
      left_too = left_second c.nodes p.left q.left V x.chosen l.left_too;
      kept = kept_right x.kept p.judged q.judged l.kept;
    } in
    elim (get_cases p.told q.told k r e) [
      | inl f ↦ item_stop_first rest q.left q.judged p (p.stays.sound sound) q.stays (first V x earlier k r f kind)
      | inr (j, later, f) ↦ item_stop_after p j later (item_stop_then after q.left q.judged p next sound (second V (under (after x) x) here j r f kind))
    ]

-- What an item asks before the items inside it, and what these ask: it is carried, and where it is met, so is what the items inside ask.
pub record Inside (E : Choice → Environment) (asks inner : Asks) (a d : Sight) (G H : Letters) (judged : List Judgement) : Type 0 where
  pub carried : ItemsCarried E (λ x. asks x ++ inner x) a G d H
  pub met : (x : Context) → AreMet x (asks x ++ inner x) carried.judged → AreMet x (inner x) judged

-- Between them, and after them, nodes are recorded.
pub items_inside : {E : Choice → Environment} {asks inner : Asks} {a b c d e : Sight} {G H : Letters} → IsSound a.nodes → ItemsCarried E asks a G b G → OnlyBetween b c → (p : ItemsCarried E inner c G d H) → OnlyBetween d e → Inside E asks inner a e G H p.judged
unfolding items_trans items_then items_as items_between
items_inside {E} {asks} {inner} {c = c} sound first only p last =
    let sound_c = subst IsSound (sym only.nodes) (first.stays.sound sound) in
    let noted = items_as (λ x. append-nil (inner x)) (items_trans (λ x. x.env) p (λ V x same loose agrees met. record { env = same; asks = refl }) sound_c (items_between {E = E} last)) in
    record {
      carried = items_trans (λ x. x.env) first (λ V x same loose agrees met. record { env = same; asks = refl }) sound (items_then only noted);
      met = λ x m. record { kept = kept_left x.kept p.judged [] (kept_right x.kept first.judged (p.judged ++ []) m.kept); holds = hold_right x.kept (asks x) (inner x) m.holds };
    }

-- the next item starts among the same names
unfoldable pub outside_between : {D : Declared} {a b : Sight} {G : Letters} {env : List Entry} {E : Choice → Environment} → OnlyBetween a b → Outside D a G env E → Outside D b G env E
outside_between {D} {a} {b} {G} {env} {E} only at = record {
  sound = subst IsSound (sym only.nodes) at.sound;
  level = only.level ∙ at.level;
  roots = at.roots;
  names = at.names;
  older = at.older;
  unknown = at.unknown;
  apart = at.apart;
  steady = at.steady;
  context = λ J own. subst (IsContext b.nodes J at.roots) (sym only.level) (subst (λ ns. IsContext ns J at.roots a.level) (sym only.nodes) (at.context J (subst (λ ns. IsOwn ns J) only.nodes own)));
  covered = subst (λ ns. Covers (D.declaration ns at.roots at.names) (D.exception ns at.roots at.names) at.roots env) (sym only.nodes) at.covered;
  known = at.known;
  knows = λ known. subst (λ ns. KnowsNames D ns at.roots at.names env) (sym only.nodes) (at.knows known);
  reads = λ J V ch own reads g.
      subst (λ ns. Stands SchemeReads (D.declaration ns at.roots at.names) (D.exception ns at.roots at.names) ns J at.roots V env (E ch)) (sym only.nodes)
      (at.reads J V ch (subst (λ ns. IsOwn ns J) only.nodes own) (subst (λ ns. IsReading ns V) only.nodes reads) (agrees_earlier (stays_between only) g));
  fits = λ J V ch own loose g.
      subst (λ ns. Stands SchemeFits (D.declaration ns at.roots at.names) (D.exception ns at.roots at.names) ns J at.roots V env (E ch)) (sym only.nodes)
      (at.fits J V ch (subst (λ ns. IsOwn ns J) only.nodes own) (subst (λ ns. Loose ns V) only.nodes loose) (agrees_earlier (stays_between only) g));
}

-- no names are among none, at any state of the lowest level
pub outside_none : {D : Declared} {a : Sight} {G : Letters} {E : Choice → Environment} → IsSteady D → ((ch : Choice) → E ch ≡ []) → IsSound a.nodes → a.level ≡ 0 → Outside D a G [] E
outside_none {D} {a} steady none sound level = record {
  sound = sound;
  level = level;
  roots = [];
  names = type.Var;
  older = [];
  unknown = λ v n o e. absurd (cc);
  apart = vars_apart;
  steady = steady;
  context = λ J own. record { inside = λ k r e. absurd (cc); low = λ v l o h e free. absurd (no_yes h) };
  covered = ([], no_entries);
  known = false;
  knows = λ known. absurd (no_yes known);
  reads = λ J V ch own reads g. subst (Stands SchemeReads (D.declaration a.nodes [] type.Var) (D.exception a.nodes [] type.Var) a.nodes J [] V []) (sym (none ch)) (record { names = no_entries; brings = λ u w free h o. absurd (no_yes h) });
  fits = λ J V ch own loose g. subst (Stands SchemeFits (D.declaration a.nodes [] type.Var) (D.exception a.nodes [] type.Var) a.nodes J [] V []) (sym (none ch)) (record { names = no_entries; brings = λ u w free h o. absurd (no_yes h) });
}

-- in which there is no unknown type
pub none_older : (D : Declared) (a : Sight) (G : Letters) (E : Choice → Environment) (steady : IsSteady D) (none : (ch : Choice) → E ch ≡ []) (sound : IsSound a.nodes) (level : a.level ≡ 0) → (outside_none {D = D} {a = a} {G = G} {E = E} steady none sound level).older ≡ []
unfolding outside_none
none_older D a G E steady none sound level = refl

-- that a node is treated asks nothing
unfoldable pub items_treated : {E : Choice → Environment} {asks : Asks} {a b : Sight} {G H : Letters} (n : ℕ) → ItemsCarried E asks a G b H → ItemsCarried E (λ c. treated n c.env ∷ [] ++ asks c) a G b H
items_treated {E} {asks} {a} {b} {G} {H} n p = record {
  stays = p.stays;
  left = p.left;
  opened = p.opened;
  settled = p.settled;
  judged = p.judged;
  told = p.told;
  reports = p.reports;
  counted = p.counted;
  sound = λ V c l. let h = p.sound V c l in record { same = h.same; holds = (tt, h.holds); tells = h.tells; sees = (tt, h.sees); starts = refl };
  follows = p.follows;
  complete = λ V c e h. elim (p.complete V c e h.1) [ inl goes ↦ inl (record { same = goes.same; types = goes.types; fits = goes.fits; before = goes.before; agrees = goes.agrees; left_too = goes.left_too; decided = goes.decided }) | inr short ↦ inr short ];
  first = first;
}
  where
    first : (k : ℕ) (V : Types) (c : Context) → EntersItems E a G V c → AllHold c.kept (take k (treated n c.env ∷ [] ++ asks c)) → Decides c p.judged (take k (treated n c.env ∷ [] ++ asks c))
    first zero V c e h = inl (starts_none p.judged)
    first (suc k) V c e h = p.first k V c e h.1

-- and nothing is left because of it
pub treated_owned : {E : Choice → Environment} {asks : Asks} {a b : Sight} {G H : Letters} {ms : List Item} (n : ℕ) (p : ItemsCarried E asks a G b H) → AreOwned ms p.left → AreOwned ms (items_treated n p).left
unfolding items_treated
treated_owned n p h = h

-- nor is any letter in doubt because of it
pub treated_clear : {E : Choice → Environment} {asks : Asks} {a b : Sight} {G H : Letters} (n : ℕ) (p : ItemsCarried E asks a G b H) → NoneDoubtful (letters_left p.left) → NoneDoubtful (letters_left (items_treated n p).left)
unfolding items_treated
treated_clear n p h = h

-- The names of a state between items stand for those of the environment at each reading.
pub outside_sees : {D : Declared} {a : Sight} {G : Letters} {env : List Entry} {E : Choice → Environment} → Outside D a G env E → (V : Types) (ch : Choice) → IsReading a.nodes V → AgreesOutside a G V ch → StandsFor V env (E ch)
outside_sees {D} {a} {G} {env} {E} at V ch reads agrees =
    let (J, own) = own_of a.nodes at.sound in
    record {
      nodes = a.nodes;
      reads = reads;
      roots = at.roots;
      names = at.names;
      are = env_map (λ r sc. SchemeReads a.nodes V r sc × IsIn at.roots r) (λ r sc. SchemeReads a.nodes V r sc × IsIn at.roots r) (D.declaration a.nodes at.roots at.names) (DeclaredAs a.nodes at.roots at.names) (D.exception a.nodes at.roots at.names) (ExceptionAs a.nodes at.roots at.names)
          (λ r sc h. h) (λ d e h. at.steady.declared h) (λ x o h. at.steady.excepted h) (at.reads J V ch own reads agrees).names;
    }

-- So where these names are recorded for an item's node, they are seen at it.
pub treated_sees : {D : Declared} {E : Choice → Environment} {asks : Asks} {a b : Sight} {G H : Letters} {env : List Entry} (n i k : ℕ) → n ≡ number_in i k → b.scopes i k ≡ Some env → Outside D a G env E → (p : ItemsCarried E asks a G b H) → SeesItems E asks b H p.left p.judged →
    SeesItems E (λ c. treated n c.env ∷ [] ++ asks c) b H (items_treated n p).left (items_treated n p).judged
unfolding items_treated
treated_sees {env = env} n i k number here at p sees V c l scopes types inside = (
  record {
    item = i;
    place = k;
    number = number;
    env = env;
    at = inside.names i k env here;
    stands = subst (StandsFor V env) (sym l.env) (outside_sees at V c.chosen (p.stays.reads V l.reads) (agrees_earlier p.stays l.agrees));
    typed = λ told. absurd (no_yes (sym (p.sound V c l).starts ∙ told));
  },
  sees V c l scopes types inside,
)

-- What reports nothing where it is met stops nowhere.
pub silent_stops : {E : Choice → Environment} {asks : Asks} {a b : Sight} {G H : Letters} (p : ItemsCarried E asks a G b H) → ((c : Context) (told : List Report) → TellAll c.kept (asks c) told → told ≡ []) → StopsItems E asks a G b H p.left p.judged p.told
silent_stops p none V c l k r e kind = absurd (let f : slice_get [] k ≡ Some r = subst (λ told. slice_get told k ≡ Some r) (none c p.told (p.sound V c l).tells) e in cc)

-- And where they stop they do so where it is said before that a node is treated.
pub treated_stops : {E : Choice → Environment} {asks : Asks} {a b : Sight} {G H : Letters} (n : ℕ) (p : ItemsCarried E asks a G b H) → StopsItems E asks a G b H p.left p.judged p.told →
    StopsItems E (λ c. treated n c.env ∷ [] ++ asks c) a G b H (items_treated n p).left (items_treated n p).judged (items_treated n p).told
unfolding items_treated
treated_stops n p stops V c l k r e kind = item_stop_cons (λ c. treated n c.env) (treated_silent n) (stops V c (record { env = l.env; reads = l.reads; agrees = l.agrees; left_too = l.left_too; kept = l.kept }) k r e kind)

-- of no items nothing is asked
pub items_none : {E : Choice → Environment} {a : Sight} {G : Letters} (seen : Seen) → ItemsCarried E (λ c. items_ask c seen []) a G a G
items_none seen = items_between (record { nodes = refl; types = λ i p. refl; noted = λ i p h. h; scopes = λ i p env h. h; reports = refl; aloud = refl; level = refl; fixed = refl })

-- An item before others: the state after it, and what changes before the next one begins, are those at which the others start.
pub items_more : {D : Declared} {L : Type 0} {E : Choice → Environment} {m : Item} {seen names : Seen} {a b : Parts} {c d : Sight} {G K : Letters} {after : List Entry} (ms : List Item) → IsSound a.store.nodes → (done : ItemDone D L E m seen names a b G after) → OnlyBetween (sight b) c →
    ItemsCarried done.env (λ x. items_ask x (seen_too seen names) ms) c done.letters d K → ItemsCarried E (λ x. items_ask x seen (m ∷ ms)) (sight a) G d K
items_more {m = m} {seen = seen} ms sound done only more = items_trans (λ x. m.adds x ++ x.env) done.carried
    (λ V x env loose agrees met. record {
      env = done.adds V x env loose agrees met;
      asks = ap (λ ns. items_ask (under (m.adds x ++ x.env) x) (seen_too seen ns) ms) (done.named V x env loose agrees met);
    }) sound (items_then only more)

-- an item is done where it was done from a state that differs only as between items
unfoldable pub done_between : {D : Declared} {K : Type 0} {E : Choice → Environment} {m : Item} {seen names : Seen} {a b d : Parts} {G : Letters} {after : List Entry} → OnlyBetween (sight a) (sight b) → ItemDone D K E m seen names b d G after → ItemDone D K E m seen names a d G after
unfolding items_then
done_between only done = record {
  letters = done.letters;
  env = done.env;
  carried = items_then only done.carried;
  owners = done.owners;
  clear = done.clear;
  sees = done.sees;
  stops = λ k. stops_between only done.carried (done.stops k);
  outside = done.outside;
  knows = done.knows;
  noted = done.noted;
  adds = done.adds;
  named = done.named;
  constants = done.constants;
}

-- An item that asks nothing but that its node is treated, for which the names in scope are recorded, adds nothing and names nothing: `;;`.
pub idle_done : {D : Declared} {K : Type 0} {E : Choice → Environment} {a b : Parts} {G : Letters} {env : List Entry} (n i k : ℕ) → n ≡ number_in i k → (sight b).scopes i k ≡ Some env → (seen : Seen) → OnlyBetween (sight a) (sight b) → (at : Outside D (sight a) G env E) → HasConstants b → AreNoted at.older b → (K → at.known ≡ true) → ItemDone D K E (recorded_idle n) seen no_names a b G env
unfolding items_treated items_between outside_between
idle_done {E = E} {G = G} n i p number here seen only at constants noted known = record {
  letters = G;
  env = E;
  carried = items_treated n (items_between only);
  owners = leaves_none none_owned;
  clear = λ k placed. none_doubtful;
  sees = λ k. treated_sees n i p number here at (items_between only) (λ V c l scopes types inside. tt);
  stops = λ k. treated_stops n (items_between only) (λ V c l j r e kind. absurd (cc));
  outside = outside_between only at;
  knows = known;
  noted = noted;
  adds = λ V c env loose agrees met. env;
  named = λ V c env loose agrees met. refl;
  constants = constants;
}

-- Between items: none of them.
unfoldable pub done_none : {D : Declared} {K : Type 0} {E : Choice → Environment} {a b : Parts} {G : Letters} {env : List Entry} (seen : Seen) → OnlyBetween (sight a) (sight b) → (at : Outside D (sight a) G env E) → HasConstants b → AreNoted at.older b → (K → at.known ≡ true) → ItemsDone D K E [] seen seen a b G env
unfolding items_between outside_between
done_none {E = E} {G = G} seen only at constants noted known = record {
  letters = G;
  env = E;
  carried = items_between only;
  owners = none_owned;
  clear = λ k placed. none_doubtful;
  sees = λ k V c l scopes types inside. tt;
  stops = λ k V c l j r e kind. absurd (cc);
  outside = outside_between only at;
  knows = known;
  noted = noted;
  behind = λ V c env loose agrees met. env;
  named = λ V c env loose agrees met. refl;
  constants = constants;
}

-- Before the first of some items.
unfoldable pub done_here : {D : Declared} {K : Type 0} {E : Choice → Environment} {a : Parts} {G : Letters} {env : List Entry} (seen : Seen) (at : Outside D (sight a) G env E) → HasConstants a → AreNoted at.older a → (K → at.known ≡ true) → ItemsDone D K E [] seen seen a a G env
unfolding items_none items_between
done_here {E = E} {G = G} seen at constants noted known = record {
  letters = G;
  env = E;
  carried = items_none seen;
  owners = none_owned;
  clear = λ k placed. none_doubtful;
  sees = λ k V c l scopes types inside. tt;
  stops = λ k V c l j r e kind. absurd (cc);
  outside = at;
  knows = known;
  noted = noted;
  behind = λ V c env loose agrees met. env;
  named = λ V c env loose agrees met. refl;
  constants = constants;
}

-- What is known where something holds is known where what it follows from does.
pub weaker : {D : Declared} {K L : Type 0} {E : Choice → Environment} {ms : List Item} {seen names : Seen} {a b : Parts} {G : Letters} {after : List Entry} → (L → K) → ItemsDone D K E ms seen names a b G after → ItemsDone D L E ms seen names a b G after
weaker follows done = record {
  letters = done.letters;
  env = done.env;
  carried = done.carried;
  owners = done.owners;
  clear = λ l. done.clear (follows l);
  sees = λ l. done.sees (follows l);
  stops = λ l. done.stops (follows l);
  outside = done.outside;
  knows = λ l. done.knows (follows l);
  noted = done.noted;
  behind = done.behind;
  named = done.named;
  constants = done.constants;
}

-- one item
pub done_one : {D : Declared} {K : Type 0} {E : Choice → Environment} {m : Item} {seen names : Seen} {a b : Parts} {G : Letters} {after : List Entry} → ItemDone D K E m seen names a b G after → ItemsDone D K E (m ∷ []) seen (seen_too seen names) a b G after
unfolding items_as
done_one {m = m} {seen = seen} done = record {
  letters = done.letters;
  env = done.env;
  carried = items_as (λ x. sym (append-nil (m.asks x seen))) done.carried;
  owners = done.owners;
  clear = done.clear;
  sees = λ k. sees_as (λ x. sym (append-nil (m.asks x seen))) done.carried (done.sees k);
  stops = λ k. stops_as (λ x. sym (append-nil (m.asks x seen))) done.carried (done.stops k);
  outside = done.outside;
  knows = done.knows;
  noted = done.noted;
  behind = λ V c env loose agrees met. done.adds V c env loose agrees (record { kept = met.kept; holds = hold_left c.kept (m.asks c seen) [] met.holds });
  named = λ V c env loose agrees met. ap (seen_too seen) (done.named V c env loose agrees (record { kept = met.kept; holds = hold_left c.kept (m.asks c seen) [] met.holds }));
  constants = done.constants;
}

-- what some items and others ask
pub asked_both : (c : Context) (seen : Seen) (ms ns : List Item) → items_ask c seen ms ++ items_ask (under (behind_items c ms) c) (seen_names c ms seen) ns ≡ items_ask c seen (ms ++ ns)
asked_both c seen [] ns = refl
asked_both c seen (m ∷ ms) ns =
    append_assoc (m.asks c seen) (items_ask (under (m.adds c ++ c.env) c) (seen_too seen (m.named c)) ms) (items_ask (under (behind_items c (m ∷ ms)) c) (seen_names c (m ∷ ms) seen) ns)
    ∙ ap (λ cs. m.asks c seen ++ cs) (asked_both (under (m.adds c ++ c.env) c) (seen_too seen (m.named c)) ms ns)

behind_both : (c : Context) (ms ns : List Item) → behind_items (under (behind_items c ms) c) ns ≡ behind_items c (ms ++ ns)
behind_both c [] ns = refl
behind_both c (m ∷ ms) ns = behind_both (under (m.adds c ++ c.env) c) ms ns

named_both : (c : Context) (seen : Seen) (ms ns : List Item) → seen_names (under (behind_items c ms) c) ns (seen_names c ms seen) ≡ seen_names c (ms ++ ns) seen
named_both c seen [] ns = refl
named_both c seen (m ∷ ms) ns = named_both (under (m.adds c ++ c.env) c) (seen_too seen (m.named c)) ms ns

-- The first items were met, and so are the others, in the context after them.
record BothMet {D : Declared} {K L : Type 0} {E : Choice → Environment} {ms ns : List Item} {seen names last : Seen} {a b c : Parts} {G : Letters} {mid after : List Entry} (p : ItemsDone D K E ms seen names a b G mid) (q : ItemsDone D L p.env ns names last b c p.letters after) (x : Context) : Type 0 where
  env : behind_items x ms ≡ p.env x.chosen
  named : seen_names x ms seen ≡ names
  first : AreMet x (items_ask x seen ms) p.carried.judged
  second : AreMet (under (behind_items x ms) x) (items_ask (under (behind_items x ms) x) names ns) q.carried.judged

-- what is asked after items, where they are met
asked_next : {D : Declared} {K : Type 0} {E : Choice → Environment} {ms : List Item} {seen names : Seen} {a b : Parts} {G : Letters} {mid : List Entry} (p : ItemsDone D K E ms seen names a b G mid) (ns : List Item) →
    InEachMet E (λ x. items_ask x seen ms) (sight b) p.letters p.carried.judged (IsNext p.env (λ x. items_ask (under (behind_items x ms) x) (seen_names x ms seen) ns) (λ x. items_ask x names ns) (λ x. behind_items x ms))
asked_next {ms = ms} p ns V x env loose agrees met = record { env = p.behind V x env loose agrees met; asks = ap (λ zs. items_ask (under (behind_items x ms) x) zs ns) (p.named V x env loose agrees met) }

both_met : {D : Declared} {K L : Type 0} {E : Choice → Environment} {ms ns : List Item} {seen names last : Seen} {a b c : Parts} {G : Letters} {mid after : List Entry} (p : ItemsDone D K E ms seen names a b G mid) (q : ItemsDone D L p.env ns names last b c p.letters after) →
    InEachMet E (λ x. items_ask x seen (ms ++ ns)) (sight c) q.letters (p.carried.judged ++ q.carried.judged) (BothMet p q)
both_met {ms = ms} {ns = ns} {seen = seen} p q V x env loose agrees met =
    let held = subst (AllHold x.kept) (sym (asked_both x seen ms ns)) met.holds in
    let one : AreMet x (items_ask x seen ms) p.carried.judged = record { kept = kept_left x.kept p.carried.judged q.carried.judged met.kept; holds = hold_left x.kept (items_ask x seen ms) (items_ask (under (behind_items x ms) x) (seen_names x ms seen) ns) held } in
    let n = asked_next p ns V x env (q.carried.stays.loose V loose) (agrees_earlier q.carried.stays agrees) one in
    record {
      env = n.env;
      named = p.named V x env (q.carried.stays.loose V loose) (agrees_earlier q.carried.stays agrees) one;
      first = one;
      second = record {
        kept = kept_right x.kept p.carried.judged q.carried.judged met.kept;
        holds = subst (AllHold x.kept) n.asks (hold_right x.kept (items_ask x seen ms) (items_ask (under (behind_items x ms) x) (seen_names x ms seen) ns) held);
      };
    }

-- what some items left and what others left was left by them together
owned_both : {ms ns : List Item} {ls ks : List Left} → AreOwned ms ls → AreOwned ns ks → AreOwned (ms ++ ns) (ls ++ ks)
owned_both none_owned q = q
owned_both (leaves_none p) q = leaves_none (owned_both p q)
owned_both (leaves_types declared p) q = leaves_types declared (owned_both p q)
owned_both (leaves_one owner fixed p) q = leaves_one owner fixed (owned_both p q)

-- Items after others.
pub done_then : {D : Declared} {K L M : Type 0} {E : Choice → Environment} {ms ns : List Item} {seen names last : Seen} {a b c : Parts} {G : Letters} {mid after : List Entry} → IsSound a.store.nodes → (p : ItemsDone D K E ms seen names a b G mid) → ItemsDone D L p.env ns names last b c p.letters after →
    (M → K) → (M → L) → ItemsDone D M E (ms ++ ns) seen last a c G after
unfolding items_as items_trans
done_then {E = E} {ms = ms} {ns = ns} {seen = seen} {names = names} sound p q first second = record {
  letters = q.letters;
  env = q.env;
  carried = items_as (λ x. asked_both x seen ms ns) (items_trans (λ x. behind_items x ms) p.carried (asked_next p ns) sound q.carried);
  owners = owned_both p.owners q.owners;
  clear = λ m placed. subst NoneDoubtful (sym (letters_both p.carried.left q.carried.left)) (none_both (letters_left p.carried.left) (letters_left q.carried.left) (p.clear (first m) (placed_before q.carried.stays.keeps placed)) (q.clear (second m) placed));
  sees = λ m. sees_as (λ x. asked_both x seen ms ns) (items_trans (λ x. behind_items x ms) p.carried (asked_next p ns) sound q.carried) (sees_trans (λ x. behind_items x ms) p.carried (asked_next p ns) sound q.carried (p.sees (first m)) (q.sees (second m)));
  stops = λ m. stops_as (λ x. asked_both x seen ms ns) (items_trans (λ x. behind_items x ms) p.carried (asked_next p ns) sound q.carried) (stops_trans (λ x. behind_items x ms) p.carried (asked_next p ns) sound q.carried (p.stops (first m)) (q.stops (second m)));
  outside = q.outside;
  knows = λ m. q.knows (second m);
  noted = q.noted;
  behind = λ V x env loose agrees met. sym (behind_both x ms ns) ∙ (let n = both_met p q V x env loose agrees met in q.behind V (under (behind_items x ms) x) n.env loose agrees n.second);
  named = λ V x env loose agrees met. sym (named_both x seen ms ns) ∙ (let n = both_met p q V x env loose agrees met in ap (seen_names (under (behind_items x ms) x) ns) n.named ∙ q.named V (under (behind_items x ms) x) n.env loose agrees n.second);
  constants = q.constants;
}

-- What holds of the names after the last of them holds of the names after all.
pub then_outside : {D : Declared} {K L M : Type 0} {E : Choice → Environment} {ms ns : List Item} {seen names last : Seen} {a b c : Parts} {G : Letters} {mid after : List Entry} (sound : IsSound a.store.nodes) (p : ItemsDone D K E ms seen names a b G mid) (q : ItemsDone D L p.env ns names last b c p.letters after)
    (first : M → K) (second : M → L) (P : (H : Letters) (E' : Choice → Environment) → Outside D (sight c) H after E' → Type 0) → P q.letters q.env q.outside → P (done_then sound p q first second).letters (done_then sound p q first second).env (done_then sound p q first second).outside
unfolding done_then
then_outside sound p q first second P h = h

-- What holds in each context in which the first are met, and in the one after them in which the others are, holds where all are.
pub then_each : {D : Declared} {K L M : Type 0} {E : Choice → Environment} {ms ns : List Item} {seen names last : Seen} {a b c : Parts} {G : Letters} {mid after : List Entry} (sound : IsSound a.store.nodes) (p : ItemsDone D K E ms seen names a b G mid) (q : ItemsDone D L p.env ns names last b c p.letters after)
    (first : M → K) (second : M → L) {P Q R : Context → Type 0} → ((x : Context) → P x → Q (under (behind_items x ms) x) → R x) → InEachMet E (λ x. items_ask x seen ms) (sight b) p.letters p.carried.judged P → InEachMet p.env (λ x. items_ask x names ns) (sight c) q.letters q.carried.judged Q →
    InEachMet E (λ x. items_ask x seen (ms ++ ns)) (sight c) (done_then sound p q first second).letters (done_then sound p q first second).carried.judged R
unfolding items_as items_trans done_then
then_each {ms = ms} sound p q first second {P} {Q} {R} gives one two V x env loose agrees met =
    let n = both_met p q V x env loose agrees met in
    gives x (one V x env (q.carried.stays.loose V loose) (agrees_earlier q.carried.stays agrees) n.first) (two V (under (behind_items x ms) x) n.env loose agrees n.second)

-- The same of one item.
pub one_outside : {D : Declared} {K : Type 0} {E : Choice → Environment} {m : Item} {seen names : Seen} {a b : Parts} {G : Letters} {after : List Entry} (done : ItemDone D K E m seen names a b G after) (P : (H : Letters) (E' : Choice → Environment) → Outside D (sight b) H after E' → Type 0) → P done.letters done.env done.outside → P (done_one done).letters (done_one done).env (done_one done).outside
unfolding done_one
one_outside done P h = h

pub one_each : {D : Declared} {K : Type 0} {E : Choice → Environment} {m : Item} {seen names : Seen} {a b : Parts} {G : Letters} {after : List Entry} (done : ItemDone D K E m seen names a b G after) {P : Context → Type 0} → InEachMet E (λ x. m.asks x seen) (sight b) done.letters done.carried.judged P →
    InEachMet E (λ x. items_ask x seen (m ∷ [])) (sight b) (done_one done).letters (done_one done).carried.judged P
unfolding items_as done_one
one_each {m = m} {seen = seen} done each V x env loose agrees met = each V x env loose agrees (record { kept = met.kept; holds = hold_left x.kept (m.asks x seen) [] met.holds })
