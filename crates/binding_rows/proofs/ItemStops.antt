-- Where two types were reported to differ: through items one after the other.
use Rattle.std.proofs.Common.{◌≡◌, ◌∙◌, inl, inr, ℕ, zero, suc, ◌+◌, ◌≤◌, ◌<◌, true, false, List, [], ◌∷◌, ◌++◌, take, length, refl, sym, ap, subst, arith, length-append, Some}
use Rattle.std.specs.Prelude.{slice_get}
use Rattle.std.proofs.lemmas.List.{take-append-le}
use Rattle.std.proofs.lemmas.Option.{slice_get_within}
use Rattle.std.proofs.Math.Seq.{take-append-add}
use Rattle.tree_model.specs.Trees.{Place}
use Rattle.signature_model.specs.Entries.{Environment}
use Rattle.signature_model.specs.Matching.{IsKnown}
use Rattle.typing_model.specs.Demands.{Site, Demand, equal, Condition, demand, AllHold}
use Rattle.typing_model.specs.Contexts.{Choice, Context, under}
use Rattle.type_nodes.specs.Nodes.{Node, IsSound}
use Rattle.type_nodes.specs.Readings.{Types, Fits}
use Rattle.level_unify.proofs.Unified.{fits_loosely}
use Rattle.typing_conditions.specs.Sights.{Sight, Key, Letters, Report, AreGiven}
use Rattle.typing_conditions.specs.Hiding.{HasCopy, IsDone}
use Rattle.typing_conditions.specs.Judging.{Judgement, judged_at, judgements, refused, AreKept, AnySeen, Meets}
use Rattle.typing_conditions.specs.Carrying.{Asks, StopsAt, IsTreated}
use Rattle.typing_conditions.proofs.Own.{own_of}
use Rattle.typing_conditions.proofs.Judged.{hold_both, judged_both, refused_both, kept_left, kept_right, given_right, given_both}
use Rattle.typing_conditions.proofs.Adequate.{never_short}
use Rattle.typing_conditions.proofs.Hiding.{copy_itself, copy_of, copy_first, copy_second}
use Rattle.typing_conditions.proofs.Stops.{get_first, get_second, get_cases, take_here, stops_first, stops_second, IsSecond, stops_cases, IsSilent}
use Rattle.binding_rows.specs.Outside.{InEachMet, Left, letters_left, AreLeft, EntersItems, ReadsItems, ContinuesItems, StaysOutside, OnlyBetween, ItemsCarried}
use Rattle.binding_rows.specs.Stopped.{AreBegun, GoesToItem, ItemStopped, ItemStop}
use Rattle.binding_rows.proofs.ItemsLeft.{left_earlier, left_first, left_second, letters_both, left_both, decided_both, stays_between, IsNext}

begun_first : (xs ls ms : List Left) → AreBegun xs ls → AreBegun xs (ls ++ ms)
begun_first [] ls ms h = tt
begun_first (x ∷ xs) [] ms h = absurd h
begun_first (x ∷ xs) (l ∷ ls) ms h = (h.0, h.1, begun_first xs ls ms h.2)

begun_second : (ls xs ms : List Left) → AreBegun xs ms → AreBegun (ls ++ xs) (ls ++ ms)
begun_second [] xs ms h = h
begun_second (l ∷ ls) xs ms h = (refl, refl, begun_second ls xs ms h)

-- letters that are left are given
pub given_of : (nodes : List Node) (ls : List Left) (V : Types) (ch : Choice) → AreLeft nodes ls V ch → AreGiven (letters_left ls) V ch
given_of nodes [] V ch h = tt
given_of nodes (l ∷ ls) V ch h = given_both V ch l.letters (letters_left ls) h.0.letters (given_of nodes ls V ch h.1)

-- what stays has no fewer nodes
longer_outside : {a b : Sight} {G H : Letters} → IsSound a.nodes → StaysOutside a G b H → length a.nodes ≤ length b.nodes
longer_outside {b = b} sound stays = let own = own_of b.nodes (stays.sound sound) in (stays.refines own.0 own.1).longer

-- what items left first has a copy in what all left
left_copy : (ls ms : List Left) (G : Letters) {x : Key × ℕ} → HasCopy (letters_left ls) x → HasCopy (letters_left (ls ++ ms) ++ G) x
left_copy ls ms G {x} h = copy_first (letters_left (ls ++ ms)) G (subst (λ xs. HasCopy xs x) (sym (letters_both ls ms)) (copy_first (letters_left ls) (letters_left ms) h))

-- and so has what the next ones left
left_copy_then : (ls ms : List Left) (G : Letters) {x : Key × ℕ} → HasCopy (letters_left ms) x → HasCopy (letters_left (ls ++ ms) ++ G) x
left_copy_then ls ms G {x} h = copy_first (letters_left (ls ++ ms)) G (subst (λ xs. HasCopy xs x) (sym (letters_both ls ms)) (copy_second (letters_left ls) (letters_left ms) h))

-- A stop of the first items is one with more items after them.
pub item_stop_first : {E : Choice → Environment} {asks : Asks} {a b c : Sight} {G H K : Letters} (rest : Asks) (left : List Left) (judged : List Judgement) {r : Report} {i : ℕ} (p : ItemsCarried E asks a G b H) → IsSound b.nodes → StaysOutside b H c K → ItemStop E asks a G b p.left p.judged i r →
    ItemStop E (λ x. asks x ++ rest x) a G c (p.left ++ left) (p.judged ++ judged) i r
item_stop_first {E} {asks} {a} {b} {c} {G} {H} {K} rest left judged {r} p sound stays s = record {
  state = s.state;
  begun = s.begun;
  found = s.found;
  wanted = s.wanted;
  names = s.names;
  site = s.site;
  before = s.before;
  judged_so = get_first p.judged judged s.before (judged_at s.site false false) s.judged_so;
  counts = ap refused (take-append-le s.before p.judged judged (let lt = slice_get_within p.judged s.before (judged_at s.site false false) s.judged_so in omega arith)) ∙ s.counts;
  shows = s.shows;
  unbound = s.unbound;
  up_to = s.up_to;
  are_begun = begun_first s.begun p.left left s.are_begun;
  lasts = record {
    longer = let l = s.lasts.longer in let m = longer_outside sound stays in omega arith;
    loose = λ V h. s.lasts.loose V (stays.loose V h);
    recorded = λ i k n e. stays.recorded i k n (s.lasts.recorded i k n e);
    letters = λ k x e. on x (s.lasts.letters k x e);
  };
  enters = enters;
  reads = λ V x l known.
      let h = s.reads V x (record { env = l.env; reads = l.reads; agrees = l.agrees; left_too = l.left_too; kept = kept_left x.kept p.judged judged l.kept }) known in
      record {
        place = h.place;
        stops = stops_first (rest x) h.stops;
        env = h.env;
        treated_in = h.treated_in;
        treats = subst (IsTreated s.site.node h.treated_in) (sym (take-append-le h.place (asks x) (rest x) (let lt = slice_get_within (asks x) h.place (demand s.site r.at (equal (V s.found.0) (V s.wanted.0))) h.stops.here in omega arith))) h.treats;
        alike = h.alike;
        stands = h.stands;
      };
}
  where
    more : (k : ℕ) (x : Key × ℕ) → slice_get (letters_left p.left ++ G) k ≡ Some x → HasCopy (letters_left (p.left ++ left) ++ G) x
    more k x e = elim (get_cases (letters_left p.left) G k x e) [
      | inl f ↦ left_copy p.left left G (copy_itself (letters_left p.left) k x f)
      | inr (j, _, f) ↦ copy_second (letters_left (p.left ++ left)) G (copy_itself G j x f)
    ]

    on : (x : Key × ℕ) → IsDone b (letters_left p.left ++ G) x → IsDone c (letters_left (p.left ++ left) ++ G) x
    on x (inl t) = inl (record { item = t.item; place = t.place; key = t.key; at = stays.recorded t.item t.place x.1 t.at })
    on x (inr h) = inr (copy_of h (more h.place h.entry h.at))

    enters : (V : Types) (x : Context) → EntersItems E a G V x → AreKept x.kept (p.judged ++ judged) → (k : ℕ) (t : Site) (at : Place) (d : Demand) → StopsAt x.kept (asks x ++ rest x) s.before k t at d → GoesToItem a s.state s.begun s.found s.wanted d V x.chosen
    enters V x e kept k t at d h = elim (stops_cases (asks x) (rest x) h) [
      | inl first ↦ s.enters V x e (kept_left x.kept p.judged judged kept) k t at d first
      | inr second ↦ elim (p.complete V x e second.first) [
        | inl goes ↦
            let lt = slice_get_within p.judged s.before (judged_at s.site false false) s.judged_so in
            let same = ap length goes.same in
            let total = second.total in
            absurd (omega arith)
        | inr short ↦ absurd (never_short x.kept (asks x) p.judged (kept_left x.kept p.judged judged kept) short)
      ]
    ]

-- A stop of the next items is one after those before them.
pub item_stop_then : {E E' : Choice → Environment} {asks rest further : Asks} {a b c : Sight} {G H : Letters} (after : Context → Environment) (left : List Left) (judged : List Judgement) {r : Report} {i : ℕ} (p : ItemsCarried E asks a G b H) → InEachMet E asks b H p.judged (IsNext E' rest further after) → IsSound a.nodes →
    ItemStop E' further b H c left judged i r → ItemStop E (λ x. asks x ++ rest x) a G c (p.left ++ left) (p.judged ++ judged) (refused p.judged + i) r
item_stop_then {E} {E'} {asks} {rest} {further} {a} {b} {c} {G} {H} after left judged {r} p next sound s = record {
  state = s.state;
  begun = p.left ++ s.begun;
  found = s.found;
  wanted = s.wanted;
  names = s.names;
  site = s.site;
  before = length p.judged + s.before;
  judged_so = get_second p.judged judged s.before ∙ s.judged_so;
  counts = ap refused (take-append-add p.judged judged s.before) ∙ refused_both p.judged (take s.before judged) ∙ ap (λ m. refused p.judged + m) s.counts;
  shows = s.shows;
  unbound = s.unbound;
  up_to = record {
    sound = s.up_to.sound;
    longer = let l = longer_outside sound p.stays in let m = s.up_to.longer in omega arith;
    reads = λ V h. p.stays.reads V (s.up_to.reads V h);
    bounds = λ v h. s.up_to.bounds v (p.stays.bounds v h);
    recorded = λ i k n e. s.up_to.recorded i k n (p.stays.recorded i k n e);
    given = λ V ch h. p.stays.given V ch (s.up_to.given V ch (given_right V ch (letters_left p.left) (letters_left s.begun) (subst (λ xs. AreGiven xs V ch) (letters_both p.left s.begun) h)));
    inside = λ i. s.up_to.inside (p.stays.inside i);
  };
  are_begun = begun_second p.left s.begun left s.are_begun;
  lasts = record {
    longer = s.lasts.longer;
    loose = s.lasts.loose;
    recorded = s.lasts.recorded;
    letters = λ k x e. elim (get_cases (letters_left p.left) (letters_left s.begun) k x (subst (λ xs. slice_get xs k ≡ Some x) (letters_both p.left s.begun) e)) [
      | inl f ↦ inr (left_copy p.left left G (copy_itself (letters_left p.left) k x f))
      | inr (j, _, f) ↦ on x (s.lasts.letters j x f)
    ];
  };
  enters = enters;
  reads = reads;
}
  where
    into : Context → Context
    into x = under (after x) x

    more : (k : ℕ) (x : Key × ℕ) → slice_get (letters_left left ++ H) k ≡ Some x → HasCopy (letters_left (p.left ++ left) ++ G) x
    more k x e = elim (get_cases (letters_left left) H k x e) [
      | inl f ↦ left_copy_then p.left left G (copy_itself (letters_left left) k x f)
      | inr (j, _, f) ↦ elim (p.opened j x f) [ inl before ↦ copy_second (letters_left (p.left ++ left)) G before | inr later ↦ left_copy p.left left G later ]
    ]

    on : (x : Key × ℕ) → IsDone c (letters_left left ++ H) x → IsDone c (letters_left (p.left ++ left) ++ G) x
    on x (inl t) = inl t
    on x (inr h) = inr (copy_of h (more h.place h.entry h.at))

    enters : (V : Types) (x : Context) → EntersItems E a G V x → AreKept x.kept (p.judged ++ judged) → (k : ℕ) (t : Site) (at : Place) (d : Demand) → StopsAt x.kept (asks x ++ rest x) (length p.judged + s.before) k t at d → GoesToItem a s.state (p.left ++ s.begun) s.found s.wanted d V x.chosen
    enters V x e kept k t at d h = elim (stops_cases (asks x) (rest x) h) [
      | inl first ↦ absurd (early first)
      | inr second ↦ elim (p.complete V x e second.first) [
        | inl goes ↦ on_from goes second (let same = ap length goes.same in let total = second.total in omega arith)
        | inr short ↦ absurd (never_short x.kept (asks x) p.judged kept_p short)
      ]
    ]
      where
        kept_p : AreKept x.kept p.judged
        kept_p = kept_left x.kept p.judged judged kept

        -- so many demands don't come before one of the first items
        early : StopsAt x.kept (asks x) (length p.judged + s.before) k t at d → ⊥
        early first =
            let one = take_here (asks x) k (demand t at d) first.here in
            let held : AllHold x.kept (take k (asks x) ++ demand t at d ∷ []) = hold_both x.kept (take k (asks x)) (demand t at d ∷ []) first.holds ((λ yes. absurd (let no : false ≡ true = sym first.refused ∙ yes in cc)), tt) in
            elim (p.first (suc k) V x e (subst (AllHold x.kept) (sym one) held)) [
              | inl starts ↦
                  let counted = first.counted in
                  let more = ap length (ap (judgements x.kept) one ∙ judged_both x.kept (take k (asks x)) (demand t at d ∷ [])) ∙ length-append (judgements x.kept (take k (asks x))) (judgements x.kept (demand t at d ∷ [])) in
                  let whole = ap length starts.split ∙ length-append (judgements x.kept (take (suc k) (asks x))) starts.rest in
                  omega arith
              | inr short ↦ never_short x.kept (take (suc k) (asks x)) p.judged kept_p short
            ]

        on_from : (goes : ContinuesItems asks a b H p.left p.judged V x) → (second : IsSecond x.kept (asks x) (rest x) (length p.judged + s.before) t at d) → second.count ≡ s.before → GoesToItem a s.state (p.left ++ s.begun) s.found s.wanted d V x.chosen
        on_from goes second count =
            let comes = next goes.types x e.env (fits_loosely b.nodes goes.types goes.fits) goes.agrees (record { kept = kept_p; holds = second.first }) in
            let to = s.enters goes.types (into x) (record { env = comes.env; inside = p.stays.inside e.inside; fits = goes.fits; agrees = goes.agrees }) (kept_right x.kept p.judged judged kept) second.place t at d
            (subst (λ cs. StopsAt x.kept cs s.before second.place t at d) comes.asks (subst (λ m. StopsAt x.kept (rest x) m second.place t at d) count second.stops)) in
            record {
              types = to.types;
              fits = to.fits;
              before = λ n lt. to.before n (let longer = longer_outside sound p.stays in omega arith) ∙ goes.before n lt;
              agrees = to.agrees;
              left_too = left_both p.left s.begun b.nodes s.state x.chosen goes.types to.types s.up_to.longer to.before goes.left_too to.left_too;
              decided = decided_both p.left s.begun x.chosen goes.decided to.decided;
              asks = to.asks;
            }

    reads : (V : Types) (x : Context) → ReadsItems E s.state [] (p.left ++ s.begun) (p.judged ++ judged) V x → ((n : ℕ) → IsKnown (x.chosen.type_at n)) → ItemStopped (asks x ++ rest x) (length p.judged + s.before) s.site r.at s.found s.wanted s.names V x
    reads V x l known = record {
      place = length (asks x) + h.place;
      stops = subst (λ cs. StopsAt x.kept (asks x ++ cs) (length p.judged + s.before) (length (asks x) + h.place) s.site r.at (equal (V s.found.0) (V s.wanted.0))) (sym comes.asks)
          (subst (λ js. StopsAt x.kept (asks x ++ further (into x)) (length js + s.before) (length (asks x) + h.place) s.site r.at (equal (V s.found.0) (V s.wanted.0))) meets.same (stops_second (asks x) meets.holds h.stops));
      env = h.env;
      treated_in = h.treated_in;
      treats = subst (λ cs. IsTreated s.site.node h.treated_in (take (length (asks x) + h.place) (asks x ++ cs))) (sym comes.asks)
          (subst (IsTreated s.site.node h.treated_in) (sym (take-append-add (asks x) (further (into x)) h.place)) (length (asks x) + h.treats.0, get_second (asks x) (take h.place (further (into x))) h.treats.0 ∙ h.treats.1));
      alike = h.alike;
      stands = h.stands;
    }
      where
        begun_given : AreGiven (letters_left s.begun) V x.chosen
        begun_given = given_of s.state.nodes s.begun V x.chosen (left_second s.state.nodes p.left s.begun V x.chosen l.left_too)

        -- what is read here is read at the state after the first items
        earlier : ReadsItems E b H p.left p.judged V x
        earlier = record {
          env = l.env;
          reads = s.up_to.reads V l.reads;
          agrees = record {
            recorded = λ i k n e. l.agrees.recorded i k n (s.up_to.recorded i k n e);
            known = λ i k n e. l.agrees.known i k n (s.up_to.recorded i k n e);
            given = s.up_to.given V x.chosen begun_given;
          };
          left_too = left_earlier b.nodes s.state.nodes p.left V x.chosen s.up_to.bounds (left_first s.state.nodes p.left s.begun V x.chosen l.left_too);
          kept = kept_left x.kept p.judged judged l.kept;
        }

        meets : Meets AnySeen x.kept (asks x) p.judged p.told
        meets = p.sound V x earlier

        comes : IsNext E' rest further after x
        comes = next V x l.env (fits_loosely b.nodes V earlier.reads.fits) earlier.agrees (record { kept = earlier.kept; holds = meets.holds })

        h : ItemStopped (further (into x)) s.before s.site r.at s.found s.wanted s.names V (into x)
        h = s.reads V (into x) (record { env = comes.env; reads = l.reads; agrees = l.agrees; left_too = left_second s.state.nodes p.left s.begun V x.chosen l.left_too; kept = kept_right x.kept p.judged judged l.kept }) known

-- A report of the next items comes after those of the items before, which are as many as demands of them that aren't kept.
pub item_stop_after : {E E' : Choice → Environment} {asks whole : Asks} {a b c : Sight} {G H : Letters} {left : List Left} {judged : List Judgement} {r : Report} {k : ℕ} (p : ItemsCarried E asks a G b H) (j : ℕ) → k ≡ length p.told + j →
    ItemStop E' whole a G c left judged (refused p.judged + j) r → ItemStop E' whole a G c left judged k r
item_stop_after {E' = E'} {whole = whole} {a = a} {c = c} {G = G} {left = left} {judged = judged} {r = r} p j e s = subst (λ n. ItemStop E' whole a G c left judged n r) (sym (e ∙ ap (λ n. n + j) p.counted)) s

-- The next item may start where nothing else changed than between items.
pub item_stop_between : {E : Choice → Environment} {asks : Asks} {a b c : Sight} {G : Letters} {left : List Left} {judged : List Judgement} {r : Report} {i : ℕ} → OnlyBetween a b → ItemStop E asks b G c left judged i r → ItemStop E asks a G c left judged i r
item_stop_between {E} {asks} {a} {b} {c} {G} {left} {judged} {r} only s = record {
  state = s.state;
  begun = s.begun;
  found = s.found;
  wanted = s.wanted;
  names = s.names;
  site = s.site;
  before = s.before;
  judged_so = s.judged_so;
  counts = s.counts;
  shows = s.shows;
  unbound = s.unbound;
  up_to = record {
    sound = s.up_to.sound;
    longer = let q = ap length only.nodes in let m = s.up_to.longer in omega arith;
    reads = λ V h. start.reads V (s.up_to.reads V h);
    bounds = λ v h. s.up_to.bounds v (start.bounds v h);
    recorded = λ i k n e. s.up_to.recorded i k n (start.recorded i k n e);
    given = s.up_to.given;
    inside = λ i. s.up_to.inside (start.inside i);
  };
  are_begun = s.are_begun;
  lasts = s.lasts;
  enters = λ V x e kept k t at d h.
      let to = s.enters V x (record {
        env = e.env;
        inside = start.inside e.inside;
        fits = subst (λ ns. Fits ns V) (sym only.nodes) e.fits;
        agrees = record { recorded = λ i j m f. e.agrees.recorded i j m (sym (only.types i j) ∙ f); known = λ i j m f. e.agrees.known i j m (sym (only.types i j) ∙ f); given = e.agrees.given };
      }) kept k t at d h in
      record { types = to.types; fits = to.fits; before = λ n lt. to.before n (subst (λ ns. n < length ns) (sym only.nodes) lt); agrees = to.agrees; left_too = to.left_too; decided = to.decided; asks = to.asks };
  reads = s.reads;
}
  where
    start : StaysOutside a G b G
    start = stays_between only

-- The conditions may be written in another way.
pub item_stop_as : {E : Choice → Environment} {asks others : Asks} {a b : Sight} {G : Letters} {left : List Left} {judged : List Judgement} {r : Report} {i : ℕ} → ((x : Context) → asks x ≡ others x) → ItemStop E asks a G b left judged i r → ItemStop E others a G b left judged i r
item_stop_as {r = r} same s = record {
  state = s.state;
  begun = s.begun;
  found = s.found;
  wanted = s.wanted;
  names = s.names;
  site = s.site;
  before = s.before;
  judged_so = s.judged_so;
  counts = s.counts;
  shows = s.shows;
  unbound = s.unbound;
  up_to = s.up_to;
  are_begun = s.are_begun;
  lasts = s.lasts;
  enters = λ V x e kept k t at d h. s.enters V x e kept k t at d (subst (λ cs. StopsAt x.kept cs s.before k t at d) (sym (same x)) h);
  reads = λ V x l known. subst (λ cs. ItemStopped cs s.before s.site r.at s.found s.wanted s.names V x) (same x) (s.reads V x l known);
}

-- A condition that is no demand, and holds where no unknown type stands in the types of nodes, may come before.
pub item_stop_cons : {E : Choice → Environment} {asks : Asks} {a b : Sight} {G : Letters} {left : List Left} {judged : List Judgement} {r : Report} {i : ℕ} (one : Context → Condition) → IsSilent one → ItemStop E asks a G b left judged i r → ItemStop E (λ c. one c ∷ asks c) a G b left judged i r
item_stop_cons {E} {asks} {a} {b} {G} {left} {judged} {r} one is s = record {
  state = s.state;
  begun = s.begun;
  found = s.found;
  wanted = s.wanted;
  names = s.names;
  site = s.site;
  before = s.before;
  judged_so = s.judged_so;
  counts = s.counts;
  shows = s.shows;
  unbound = s.unbound;
  up_to = s.up_to;
  are_begun = s.are_begun;
  lasts = s.lasts;
  enters = enters;
  reads = λ V c l known.
      let h = s.reads V c l known in
      record {
        place = suc h.place;
        stops = record { here = h.stops.here; refused = h.stops.refused; counted = ap length (is.silent c (take h.place (asks c))) ∙ h.stops.counted; holds = (is.holds c known, h.stops.holds) };
        env = h.env;
        treated_in = h.treated_in;
        treats = (suc h.treats.0, h.treats.1);
        alike = h.alike;
        stands = h.stands;
      };
}
  where
    enters : (V : Types) (c : Context) → EntersItems E a G V c → AreKept c.kept judged → (k : ℕ) (t : Site) (at : Place) (d : Demand) → StopsAt c.kept (one c ∷ asks c) s.before k t at d → GoesToItem a s.state s.begun s.found s.wanted d V c.chosen
    enters V c e kept zero t at d h = absurd (is.other c t at d (let same = h.here in cc))
    enters V c e kept (suc k) t at d h = s.enters V c e kept k t at d (record { here = h.here; refused = h.refused; counted = sym (ap length (is.silent c (take k (asks c)))) ∙ h.counted; holds = h.holds.1 })
