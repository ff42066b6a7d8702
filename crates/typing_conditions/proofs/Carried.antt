-- What is carried, through one call after another.
use Rattle.std.proofs.Common.{◌≡◌, ◌∙◌, ◌++◌, ℕ, zero, suc, ◌+◌, ◌-◌, ◌≤◌, ◌<◌, ◌⊎◌, inl, inr, Bool, true, ◌||◌, Some, List, [], ◌∷◌, take, length, refl, sym, ap, subst, append_assoc, append-nil, length-append, arith}
use Rattle.std.specs.Prelude.{slice_get}
use Rattle.std.proofs.lemmas.List.{take-append-le}
use Rattle.std.proofs.Math.Seq.{take-append-add}
use Rattle.type_model.specs.Types.{Typ, occurs}
use Rattle.type_model.proofs.Applying.{or_left, or_cases}
use Rattle.signature_model.specs.Entries.{Environment}
use Rattle.typing_model.specs.Demands.{Condition, treated, AllHold}
use Rattle.typing_model.specs.Contexts.{Choice, Context}
use Rattle.type_nodes.specs.Nodes.{Node}
use Rattle.type_nodes.specs.Readings.{Types}
use Rattle.typing_conditions.specs.Sights.{Sight, Key, Letters, AreGiven, AreNodes, SameAt, Agrees}
use Rattle.typing_conditions.specs.Frames.{Frame}
use Rattle.typing_conditions.specs.Seeing.{IsSeen}
use Rattle.typing_conditions.specs.Judging.{Judgement, judgements, AreKept, Follows, StartsWith, FallsShort, Meets}
use Rattle.typing_conditions.specs.Carrying.{Asks, Scope, with_own, at_node, IsTreated, IsAround, AreStops, HoldsWritten, IsUnder, Enters, GoesOn, AreHidden, Continues, Carried, ReadsOff}
use Rattle.typing_conditions.proofs.Judged.{hold_both, hold_left, hold_right, judged_both, counted_both, kept_left, kept_right, given_left, given_right, given_both, nodes_left, nodes_both, tell_both, seen_both, starts_both, follows_both, short_left, short_right, short_of_more, starts_all, starts_left, starts_right}
use Rattle.typing_conditions.proofs.Meaning.{nodes_in, given_same}
use Rattle.typing_conditions.proofs.Stays.{stays_refl, stays_trans, stays_closed, agrees_before, named_before, bounds_before, enters_next, goes_further}
use Rattle.typing_conditions.specs.Hiding.{marked, HasCopy, AreDone, Owns}
use Rattle.typing_conditions.proofs.Hiding.{settles_none, settles_both, given_marked, nodes_marked, placed_before, none_doubtful, none_both, copy_first, copy_second, keeps_same, done_on, owns_on}
use Rattle.typing_conditions.specs.Meanings.{Means}
use Rattle.typing_conditions.proofs.Stops.{none_stop, stops_both, stop_as, AreAround, stop_under, around_told, get_first, get_second, get_cases, stop_first, stop_within, stop_after}
use Rattle.level_unify.proofs.Unified.{fits_loosely}
use Rattle.level_unify.specs.Solutions.{Loose}

-- what the demands of some conditions come to: they are the first of those that were judged, or they fall short of them
abbrev pub Decides : Context → List Judgement → List Condition → Type 0
Decides c judged cs = StartsWith judged (judgements c.kept cs) ⊎ FallsShort (judgements c.kept cs) judged

-- of no conditions the first ones are none
pub take_none : (k : ℕ) → let none : List Condition = [] in take k none ≡ none
take_none zero = refl
take_none (suc k) = refl

-- letters that are hidden have their types further on, and so have those that are hidden then
pub hidden_both : (xs ys : Letters) (nodes : List Node) (c : Sight) (ch : Choice) (V W : Types) → length nodes ≤ length c.nodes → SameAt nodes V W → AreNodes xs nodes × AreGiven xs V ch → AreHidden ys c W ch → AreHidden (xs ++ ys) c W ch
hidden_both xs ys nodes c ch V W longer same p q = (nodes_both xs ys c.nodes (nodes_in xs nodes c.nodes longer p.0) q.0, given_both W ch xs ys (given_same xs nodes V W ch p.0 same p.1) q.1)

-- open letters that a row has no more use for are hidden too, with marks
pub hidden_more : (test : Key × ℕ → Bool) (xs own G : Letters) (b : Sight) (ch : Choice) (W : Types) → AreNodes (own ++ G) b.nodes → AreGiven (own ++ G) W ch → AreHidden xs b W ch → AreHidden (xs ++ marked test own) b W ch
hidden_more test xs own G b ch W nodes given h = (nodes_both xs (marked test own) b.nodes h.0 (nodes_marked test own b.nodes (nodes_left own G b.nodes nodes)), given_both W ch xs (marked test own) h.1 (given_marked test own W ch (given_left W ch own G given)))

-- nothing is asked and nothing done
pub carried_refl : {F : Frame} {scope : Scope} {a : Sight} {G : Letters} → Carried F scope (λ c. []) a G a G
carried_refl {F} {scope} {a} {G} = record {
  stays = stays_refl;
  hidden = [];
  settled = settles_none;
  clear = λ known placed. none_doubtful;
  judged = [];
  told = [];
  reports = sym (append-nil a.reports);
  counted = refl;
  sound = λ r V c l. record { same = refl; holds = tt; tells = refl; sees = tt; starts = refl };
  follows = λ r V c l. refl;
  complete = λ named V c e h. inl (record { same = refl; types = V; on = record { fits = e.fits; before = λ n lt. refl; agrees = e.agrees }; hidden_too = (tt, tt) });
  first = λ named k V c e h. inl (subst (λ cs. StartsWith [] (judgements c.kept cs)) (sym (take_none k)) (starts_all []));
  stops = none_stop;
}

-- a number is at most another one, or it is more
pub less_or_more : (k l : ℕ) → (k ≤ l) ⊎ ((n : ℕ) × (k ≡ l + n))
less_or_more k l = elim (compared k l) [ inl le ↦ inl le | inr more ↦ inr (k - l, let e = more in omega arith) ]
  where
    compared : (k l : ℕ) → (k ≤ l) ⊎ (l < k)
    compared k l = grind arith

-- one list of conditions after another
unfoldable pub carried_trans : {F : Frame} {scope : Scope} {asks further : Asks} {a b c : Sight} {G H K : Letters} → Carried F scope asks a G b H → Carried F scope further b H c K → Carried F scope (λ x. asks x ++ further x) a G c K
carried_trans {F} {scope} {asks} {further} {a} {b} {c} {G} {H} {K} p q = record {
  stays = stays_trans p.stays q.stays;
  hidden = p.hidden ++ q.hidden;
  settled = settles_both p.hidden q.hidden p.stays.keeps q.stays.keeps p.settled q.settled;
  clear = λ known placed. none_both p.hidden q.hidden (p.clear known (placed_before q.stays.keeps placed)) (q.clear known placed);
  judged = p.judged ++ q.judged;
  told = p.told ++ q.told;
  reports = q.reports ∙ ap (λ rs. rs ++ q.told) p.reports ∙ append_assoc a.reports p.told q.told;
  counted = counted_both p.judged q.judged p.told q.told p.counted q.counted;
  sound = λ r V x l.
      let one = p.sound r V x (record {
        under = l.under;
        reads = q.stays.reads V l.reads;
        agrees = agrees_before q.stays l.agrees;
        hidden_too = given_left V x.chosen p.hidden q.hidden l.hidden_too;
        named = named_before scope q.stays l.named;
        unbound = bounds_before scope x.chosen q.stays (p.stays.reaches r) l.unbound;
        kept = kept_left x.kept p.judged q.judged l.kept;
        scopes = l.scopes;
        in_the_end = λ i k env h. l.in_the_end i k env (q.stays.keeps.scopes i k env h);
        types = l.types;
        types_too = λ i k m h. l.types_too i k m (q.stays.keeps.recorded i k m h);
      }) in
      let two = q.sound (p.stays.reaches r) V x (record {
        under = l.under;
        reads = l.reads;
        agrees = l.agrees;
        hidden_too = given_right V x.chosen p.hidden q.hidden l.hidden_too;
        named = l.named;
        unbound = l.unbound;
        kept = kept_right x.kept p.judged q.judged l.kept;
        scopes = l.scopes;
        in_the_end = l.in_the_end;
        types = l.types;
        types_too = l.types_too;
      }) in
      record {
        same = judged_both x.kept (asks x) (further x) ∙ ap (λ js. js ++ judgements x.kept (further x)) one.same ∙ ap (λ js. p.judged ++ js) two.same;
        holds = hold_both x.kept (asks x) (further x) one.holds two.holds;
        tells = tell_both x.kept (asks x) (further x) p.told q.told one.tells two.tells;
        sees = seen_both (IsSeen l.scopes l.types V) (asks x) (further x) two.starts one.sees two.sees;
        starts = starts_both (asks x) (further x) one.starts two.starts;
      };
  follows = λ r V x l.
      follows_both x.kept (asks x) (further x) p.judged q.judged
      (p.follows r V x (record {
        under = l.under;
        reads = q.stays.reads V l.reads;
        agrees = agrees_before q.stays l.agrees;
        hidden_too = given_left V x.chosen p.hidden q.hidden l.hidden_too;
        named = named_before scope q.stays l.named;
        unbound = bounds_before scope x.chosen q.stays (p.stays.reaches r) l.unbound;
        kept = tt;
        scopes = l.scopes;
        in_the_end = λ i k env h. l.in_the_end i k env (q.stays.keeps.scopes i k env h);
        types = l.types;
        types_too = λ i k m h. l.types_too i k m (q.stays.keeps.recorded i k m h);
      }))
      (λ kept. q.follows (p.stays.reaches r) V x (record { under = l.under; reads = l.reads; agrees = l.agrees; hidden_too = given_right V x.chosen p.hidden q.hidden l.hidden_too; named = l.named; unbound = l.unbound; kept = tt; scopes = l.scopes; in_the_end = l.in_the_end; types = l.types; types_too = l.types_too }));
  complete = λ named V x e h. elim (p.complete (named_before scope q.stays named) V x e (hold_left x.kept (asks x) (further x) h)) [
    | inl goes ↦ then_complete V x e goes (q.complete named goes.types x (enters_next p.stays e goes.on) (hold_right x.kept (asks x) (further x) h))
    | inr short ↦ inr (falls_first x (further x) short)
  ];
  first = λ named k V x e h. by_place named k V x e h (less_or_more k (length (asks x)));
  stops = stops_both p (λ V x loose under agrees named kept. refl) q;
}
  where
    -- the first ones fall short
    falls_first : (x : Context) (cs : List Condition) → FallsShort (judgements x.kept (asks x)) p.judged → FallsShort (judgements x.kept (asks x ++ cs)) (p.judged ++ q.judged)
    falls_first x cs short = subst (λ js. FallsShort js (p.judged ++ q.judged)) (sym (judged_both x.kept (asks x) cs)) (short_left (judgements x.kept (asks x)) p.judged (judgements x.kept cs) q.judged short)

    -- the others fall short
    falls_then : (x : Context) (cs : List Condition) → judgements x.kept (asks x) ≡ p.judged → FallsShort (judgements x.kept cs) q.judged → FallsShort (judgements x.kept (asks x ++ cs)) (p.judged ++ q.judged)
    falls_then x cs same short = subst (λ js. FallsShort js (p.judged ++ q.judged)) (sym (judged_both x.kept (asks x) cs)) (short_right (judgements x.kept (asks x)) p.judged (judgements x.kept cs) q.judged same short)

    then_complete : (V : Types) (x : Context) → Enters F scope a G V x → (goes : Continues F asks a b H p.hidden p.judged V x) →
        Continues F further b c K q.hidden q.judged goes.types x ⊎ FallsShort (judgements x.kept (further x)) q.judged →
        Continues F (λ y. asks y ++ further y) a c K (p.hidden ++ q.hidden) (p.judged ++ q.judged) V x ⊎ FallsShort (judgements x.kept (asks x ++ further x)) (p.judged ++ q.judged)
    then_complete V x e goes (inl also) = inl (record {
      same = judged_both x.kept (asks x) (further x) ∙ ap (λ js. js ++ judgements x.kept (further x)) goes.same ∙ ap (λ js. p.judged ++ js) also.same;
      types = also.types;
      on = goes_further p.stays goes.on also.on;
      hidden_too = hidden_both p.hidden q.hidden b.nodes c x.chosen goes.types also.types q.stays.longer also.on.before goes.hidden_too also.hidden_too;
    })
    then_complete V x e goes (inr short) = inr (falls_then x (further x) goes.same short)

    then_first : (V : Types) (x : Context) (n : ℕ) → Continues F asks a b H p.hidden p.judged V x → Decides x q.judged (take n (further x)) → Decides x (p.judged ++ q.judged) (asks x ++ take n (further x))
    then_first V x n goes (inl starts) = inl (subst (StartsWith (p.judged ++ q.judged)) (sym (judged_both x.kept (asks x) (take n (further x)) ∙ ap (λ js. js ++ judgements x.kept (take n (further x))) goes.same))
        (starts_right p.judged q.judged (judgements x.kept (take n (further x))) starts))
    then_first V x n goes (inr short) = inr (falls_then x (take n (further x)) goes.same short)

    -- the first k conditions end among the first ones, or among the others
    by_place : HoldsWritten scope c → (k : ℕ) (V : Types) (x : Context) → Enters F scope a G V x → AllHold x.kept (take k (asks x ++ further x)) → (k ≤ length (asks x)) ⊎ ((n : ℕ) × (k ≡ length (asks x) + n)) →
        Decides x (p.judged ++ q.judged) (take k (asks x ++ further x))
    by_place named k V x e h (inl le) =
        let here = take-append-le k (asks x) (further x) le in
        subst (Decides x (p.judged ++ q.judged)) (sym here) (elim (p.first (named_before scope q.stays named) k V x e (subst (AllHold x.kept) here h)) [
          | inl starts ↦ inl (starts_left p.judged (judgements x.kept (take k (asks x))) q.judged starts)
          | inr short ↦ inr (short_of_more (judgements x.kept (take k (asks x))) p.judged q.judged short)
        ])
    by_place named k V x e h (inr (n, eq)) =
        let here = ap (λ i. take i (asks x ++ further x)) eq ∙ take-append-add (asks x) (further x) n in
        let held = subst (AllHold x.kept) here h in
        subst (Decides x (p.judged ++ q.judged)) (sym here) (elim (p.complete (named_before scope q.stays named) V x e (hold_left x.kept (asks x) (take n (further x)) held)) [
          | inl goes ↦ then_first V x n goes (q.first named n goes.types x (enters_next p.stays e goes.on) (hold_right x.kept (asks x) (take n (further x)) held))
          | inr short ↦ inr (falls_first x (take n (further x)) short)
        ])

-- what either hides is hidden then
pub trans_hides : {F : Frame} {scope : Scope} {asks further : Asks} {a b c : Sight} {G H K : Letters} (p : Carried F scope asks a G b H) (q : Carried F scope further b H c K) → ((x : Key × ℕ) → HasCopy p.hidden x → HasCopy (carried_trans p q).hidden x) × ((x : Key × ℕ) → HasCopy q.hidden x → HasCopy (carried_trans p q).hidden x)
unfolding carried_trans
trans_hides p q = ((λ x h. copy_first p.hidden q.hidden h), (λ x h. copy_second p.hidden q.hidden h))

-- so letters of rows that are done are so after further calls
pub done_then : {F : Frame} {scope : Scope} {asks further : Asks} {a b c : Sight} {G H K : Letters} (p : Carried F scope asks a G b H) (q : Carried F scope further b H c K) {ys : Letters} → AreDone b p.hidden ys → AreDone c (carried_trans p q).hidden ys
done_then p q o = done_on q.stays.keeps (trans_hides p q).0 o

pub owns_then : {F : Frame} {scope : Scope} {asks further : Asks} {a b c : Sight} {G H K : Letters} (p : Carried F scope asks a G b H) (q : Carried F scope further b H c K) {n m : ℕ} {ys : Letters} → Owns n m b p.hidden ys → Owns n m c (carried_trans p q).hidden ys
owns_then p q o = owns_on q.stays.keeps (trans_hides p q).0 o

-- and so are those of the last call
pub done_last : {F : Frame} {scope : Scope} {asks further : Asks} {a b c : Sight} {G H K : Letters} (p : Carried F scope asks a G b H) (q : Carried F scope further b H c K) {ys : Letters} → AreDone c q.hidden ys → AreDone c (carried_trans p q).hidden ys
done_last p q o = done_on keeps_same (trans_hides p q).1 o

pub owns_last : {F : Frame} {scope : Scope} {asks further : Asks} {a b c : Sight} {G H K : Letters} (p : Carried F scope asks a G b H) (q : Carried F scope further b H c K) {n m : ℕ} {ys : Letters} → Owns n m c q.hidden ys → Owns n m c (carried_trans p q).hidden ys
owns_last p q o = owns_on keeps_same (trans_hides p q).1 o

-- what is asked in one context, by what is asked in another that the first one decides, of a scope that holds the same type variables
pub carried_into : {F : Frame} {scope inner : Scope} {asks : Asks} {a b : Sight} {G H : Letters} (into : Context → Context) → inner.held ≡ scope.held → ((c : Context) → ((into c).kept ≡ c.kept) × ((into c).chosen ≡ c.chosen)) →
    ((c : Context) → IsUnder scope c → IsUnder inner (into c)) → (p : Carried F inner asks a G b H) → AreStops F scope (λ c. asks (into c)) a G b (p.hidden ++ H) p.judged p.told → Carried F scope (λ c. asks (into c)) a G b H
carried_into {F} {scope} {inner} {asks} {a} {b} {G} {H} into held still has p stops = record {
  stays = p.stays;
  hidden = p.hidden;
  settled = p.settled;
  clear = p.clear;
  judged = p.judged;
  told = p.told;
  reports = p.reports;
  counted = p.counted;
  sound = λ r V c l.
      let kept = (still c).0 in let chosen = (still c).1 in
      let m = p.sound r V (into c) (record {
        under = has c l.under;
        reads = l.reads;
        agrees = subst (Agrees F.owner b H V) (sym chosen) l.agrees;
        hidden_too = subst (AreGiven p.hidden V) (sym chosen) l.hidden_too;
        named = named_in b l.named;
        unbound = λ k x e v bound. ap (λ ch. occurs v (ch.written F.owner x)) chosen ∙ l.unbound k x (ap (λ xs. slice_get xs k) (sym held) ∙ e) v bound;
        kept = subst (λ k. AreKept k p.judged) (sym kept) l.kept;
        scopes = l.scopes;
        in_the_end = l.in_the_end;
        types = l.types;
        types_too = l.types_too;
      }) in
      subst (λ k. Meets (IsSeen l.scopes l.types V) k (asks (into c)) p.judged p.told) kept m;
  follows = λ r V c l.
      let chosen = (still c).1 in
      subst (λ k. Follows k (asks (into c)) p.judged) (still c).0 (p.follows r V (into c) (record {
        under = has c l.under;
        reads = l.reads;
        agrees = subst (Agrees F.owner b H V) (sym chosen) l.agrees;
        hidden_too = subst (AreGiven p.hidden V) (sym chosen) l.hidden_too;
        named = named_in b l.named;
        unbound = λ k x e v bound. ap (λ ch. occurs v (ch.written F.owner x)) chosen ∙ l.unbound k x (ap (λ xs. slice_get xs k) (sym held) ∙ e) v bound;
        kept = tt;
        scopes = l.scopes;
        in_the_end = l.in_the_end;
        types = l.types;
        types_too = l.types_too;
      }));
  complete = λ named V c e h. elim (p.complete (named_in b named) V (into c) (enters V c e) (subst (λ k. AllHold k (asks (into c))) (sym (still c).0) h)) [
    | inl goes ↦ inl (record { same = subst (λ k. judgements k (asks (into c)) ≡ p.judged) (still c).0 goes.same; types = goes.types; on = subst (GoesOn F a b H V goes.types) (still c).1 goes.on; hidden_too = subst (AreHidden p.hidden b goes.types) (still c).1 goes.hidden_too })
    | inr short ↦ inr (subst (λ k. FallsShort (judgements k (asks (into c))) p.judged) (still c).0 short)
  ];
  first = λ named k V c e h.
      subst (λ m. StartsWith p.judged (judgements m (take k (asks (into c)))) ⊎ FallsShort (judgements m (take k (asks (into c)))) p.judged) (still c).0
      (p.first (named_in b named) k V (into c) (enters V c e) (subst (λ m. AllHold m (take k (asks (into c)))) (sym (still c).0) h));
  stops = stops;
}
  where
    named_in : (x : Sight) → HoldsWritten scope x → HoldsWritten inner x
    named_in x named y m e = let (k, f) = named y m e in (k, ap (λ xs. slice_get xs k) held ∙ f)

    enters : (V : Types) (c : Context) → Enters F scope a G V c → Enters F inner a G V (into c)
    enters V c e = record { under = has c e.under; inside = e.inside; fits = e.fits; agrees = subst (Agrees F.owner a G V) (sym (still c).1) e.agrees }

-- the same, where the demands are made in the same environment, but for values, and for the same nodes, or in one in which a node is said to be treated
pub carried_under : {F : Frame} {scope inner : Scope} {asks : Asks} {a b : Sight} {G H : Letters} (into : Context → Context) → inner.held ≡ scope.held → ((c : Context) → ((into c).kept ≡ c.kept) × ((into c).chosen ≡ c.chosen)) →
    ((c : Context) → IsUnder scope c → IsUnder inner (into c)) → AreAround scope inner into asks → Carried F inner asks a G b H → Carried F scope (λ c. asks (into c)) a G b H
carried_under into held still has around p = carried_into into held still has p (λ k r e kind. stop_under into held still has around (p.stops k r e kind))

-- a choice agrees with letters that have their types by what there is besides
dropped_agree : {owner : ℕ} {b : Sight} (own : Letters) {G : Letters} {V : Types} {ch : Choice} → AreGiven own V ch → Agrees owner b G V ch → Agrees owner b (own ++ G) V ch
dropped_agree own {G} {V} {ch} given g = record { recorded = g.recorded; known = g.known; written = g.written; given = given_both V ch own G given g.given }

-- what a list has at its end beyond itself is nothing
none_more : {A : Type 0} (xs ys : List A) → xs ≡ xs ++ ys → ys ≡ []
none_more xs [] e = refl
none_more xs (y ∷ ys) e = absurd (let same = ap length e ∙ length-append xs (y ∷ ys) in omega arith)

-- Letters that have the types of their nodes wherever a choice agrees with what there is besides needn't be open, nor hidden, where nothing is reported.
pub carried_dropped : {F : Frame} {scope : Scope} {asks : Asks} {a b : Sight} (own : Letters) {G : Letters} → ((V : Types) (ch : Choice) → Loose b.nodes V → Agrees F.owner b G V ch → AreGiven own V ch) → Carried F scope asks a G b (own ++ G) → b.reports ≡ a.reports → Carried F scope asks a G b G
carried_dropped {F} {scope} {asks} {a} {b} own {G} implied p silent = record {
  stays = stays_closed own p.stays;
  hidden = p.hidden;
  settled = p.settled;
  clear = p.clear;
  judged = p.judged;
  told = p.told;
  reports = p.reports;
  counted = p.counted;
  sound = λ r V c l. p.sound r V c (reads_too V c l);
  follows = λ r V c l. p.follows r V c (reads_too V c l);
  complete = λ named V c e h. elim (p.complete named V c e h) [
    | inl goes ↦ inl (record {
      same = goes.same;
      types = goes.types;
      on = record {
        fits = goes.on.fits;
        before = goes.on.before;
        agrees = record { recorded = goes.on.agrees.recorded; known = goes.on.agrees.known; written = goes.on.agrees.written; given = given_right goes.types c.chosen own G goes.on.agrees.given };
      };
      hidden_too = goes.hidden_too;
    })
    | inr short ↦ inr short
  ];
  first = p.first;
  stops = λ k r e kind. absurd (let none : slice_get [] k ≡ Some r = ap (λ rs. slice_get rs k) (sym (none_more a.reports p.told (sym silent ∙ p.reports))) ∙ e in cc);
}
  where
    reads_too : {js : List Judgement} (V : Types) (c : Context) → ReadsOff F scope b G p.hidden js V c → ReadsOff F scope b (own ++ G) p.hidden js V c
    reads_too V c l = record {
      under = l.under;
      reads = l.reads;
      agrees = dropped_agree own (implied V c.chosen (fits_loosely b.nodes V l.reads.fits) l.agrees) l.agrees;
      hidden_too = l.hidden_too;
      named = l.named;
      unbound = l.unbound;
      kept = l.kept;
      scopes = l.scopes;
      in_the_end = l.in_the_end;
      types = l.types;
      types_too = l.types_too;
    }

-- a node has its type without them
pub means_dropped : {F : Frame} {b : Sight} (own : Letters) {G : Letters} {type : Choice → Typ} {m : ℕ} → ((V : Types) (ch : Choice) → Loose b.nodes V → Agrees F.owner b G V ch → AreGiven own V ch) → Means F b (own ++ G) type m → Means F b G type m
means_dropped own implied h = record { open_node = h.open_node; is = λ V ch loose g. h.is V ch loose (dropped_agree own (implied V ch loose g) g) }

-- the conditions may be written in another way
unfoldable pub carried_as : {F : Frame} {scope : Scope} {asks others : Asks} {a b : Sight} {G H : Letters} → ((c : Context) → asks c ≡ others c) → Carried F scope asks a G b H → Carried F scope others a G b H
carried_as {F} {scope} {asks} {others} {a} {b} {G} {H} e p = record {
  stays = p.stays;
  hidden = p.hidden;
  settled = p.settled;
  clear = p.clear;
  judged = p.judged;
  told = p.told;
  reports = p.reports;
  counted = p.counted;
  sound = λ r V c l. subst (λ cs. Meets (IsSeen l.scopes l.types V) c.kept cs p.judged p.told) (e c) (p.sound r V c l);
  follows = λ r V c l. subst (λ cs. Follows c.kept cs p.judged) (e c) (p.follows r V c l);
  complete = λ named V c en h. elim (p.complete named V c en (subst (AllHold c.kept) (sym (e c)) h)) [
    | inl goes ↦ inl (record { same = ap (judgements c.kept) (sym (e c)) ∙ goes.same; types = goes.types; on = goes.on; hidden_too = goes.hidden_too })
    | inr short ↦ inr (subst (λ cs. FallsShort (judgements c.kept cs) p.judged) (e c) short)
  ];
  first = λ named k V c en h. subst (λ cs. Decides c p.judged (take k cs)) (e c) (p.first named k V c en (subst (λ cs. AllHold c.kept (take k cs)) (sym (e c)) h));
  stops = λ k r f kind. stop_as e (p.stops k r f kind);
}

-- they hide the same then
pub as_hides : {F : Frame} {scope : Scope} {asks others : Asks} {a b : Sight} {G H : Letters} (e : (c : Context) → asks c ≡ others c) (p : Carried F scope asks a G b H) → (carried_as e p).hidden ≡ p.hidden
unfolding carried_as
as_hides e p = refl

-- and so in a context further in
pub under_hides : {F : Frame} {scope inner : Scope} {asks : Asks} {a b : Sight} {G H : Letters} (into : Context → Context) (held : inner.held ≡ scope.held) (still : (c : Context) → ((into c).kept ≡ c.kept) × ((into c).chosen ≡ c.chosen))
    (has : (c : Context) → IsUnder scope c → IsUnder inner (into c)) (around : AreAround scope inner into asks) (p : Carried F inner asks a G b H) → (carried_under into held still has around p).hidden ≡ p.hidden
unfolding carried_under carried_into
under_hides into held still has around p = refl

-- and where letters are dropped
pub dropped_hides : {F : Frame} {scope : Scope} {asks : Asks} {a b : Sight} (own : Letters) {G : Letters} (implied : (V : Types) (ch : Choice) → Loose b.nodes V → Agrees F.owner b G V ch → AreGiven own V ch) (p : Carried F scope asks a G b (own ++ G)) (silent : b.reports ≡ a.reports) → (carried_dropped own implied p silent).hidden ≡ p.hidden
unfolding carried_dropped
dropped_hides own implied p silent = refl

-- so what is so of letters of rows that are done, and of those that are open over a row, is so then
pub done_as : {F : Frame} {scope : Scope} {asks others : Asks} {a b : Sight} {G H ys : Letters} (e : (c : Context) → asks c ≡ others c) (p : Carried F scope asks a G b H) → AreDone b p.hidden ys → AreDone b (carried_as e p).hidden ys
done_as {b = b} {ys = ys} e p o = subst (λ xs. AreDone b xs ys) (sym (as_hides e p)) o

pub owns_as : {F : Frame} {scope : Scope} {asks others : Asks} {a b : Sight} {G H ys : Letters} {n m : ℕ} (e : (c : Context) → asks c ≡ others c) (p : Carried F scope asks a G b H) → Owns n m b p.hidden ys → Owns n m b (carried_as e p).hidden ys
owns_as {b = b} {ys = ys} {n = n} {m = m} e p o = subst (λ xs. Owns n m b xs ys) (sym (as_hides e p)) o

-- What is carried where a node's own demands are made is carried around it, where the conditions say first that the node is treated.
pub carried_row : {F : Frame} {scope : Scope} {asks : Asks} {a b : Sight} {G H : Letters} (n : ℕ) → Carried F (at_node n scope) (λ c. treated n c.env ∷ asks c) a G b H → Carried F scope (λ c. treated n c.env ∷ asks c) a G b H
carried_row {scope = scope} {asks = asks} n p = carried_under (λ c. c) refl (λ c. (refl, refl)) (λ c u. record { env = u.env; variables = u.variables; held = u.held }) (around_told scope asks n) p

-- What is carried where further nodes' demands are made is carried after conditions that say of each of them that it is treated.
pub carried_told : {F : Frame} {scope : Scope} {asks further : Asks} {a b c : Sight} {G H K : Letters} (own : ℕ → Bool) → ((x : Context) → IsUnder scope x → (n : ℕ) → own n ≡ true → IsTreated n x.env (asks x)) → Carried F scope asks a G b H →
    Carried F (with_own (λ n. scope.own n || own n) scope) further b H c K → Carried F scope (λ x. asks x ++ further x) a G c K
unfolding carried_trans carried_under carried_into
carried_told {F} {scope} {asks} {further} {a} {b} {c} {G} {H} {K} own told p q = carried_into (λ x. x) refl (λ x. (refl, refl)) here both stops
  where
    more : Scope
    more = with_own (λ n. scope.own n || own n) scope

    here : (x : Context) → IsUnder scope x → IsUnder more x
    here x u = record { env = u.env; variables = u.variables; held = u.held }

    back : (x : Context) → IsUnder more x → IsUnder scope x
    back x u = record { env = u.env; variables = u.variables; held = u.held }

    first : Carried F more asks a G b H
    first = carried_under (λ x. x) refl (λ x. (refl, refl)) back around p
      where
        around : AreAround more scope (λ x. x) asks
        around x u k n env s at d e (inl h) = inl h
        around x u k n env s at d e (inr (one, alike)) = inr (or_left (scope.own n) (own n) one, alike)

    both : Carried F more (λ x. asks x ++ further x) a G c K
    both = carried_trans first q

    -- a node's demand is one of the scope, or the node is treated before
    around : (x : Context) → IsUnder scope x → (n : ℕ) (env : Environment) (cs : List Condition) → IsAround more x n env cs → IsAround scope x n env (asks x ++ cs)
    around x u n env cs (inl (E, (j, e), alike)) = inl (E, (length (asks x) + j, get_second (asks x) cs j ∙ e), alike)
    around x u n env cs (inr (one, alike)) = elim (or_cases (scope.own n) (own n) one) [
      | inl mine ↦ inr (mine, alike)
      | inr theirs ↦ (let (j, e) = told x u n theirs in inl (x.env, (j, get_first (asks x) cs j (treated n x.env) e), alike))
    ]

    stops : AreStops F scope (λ x. asks x ++ further x) a G c ((p.hidden ++ q.hidden) ++ K) (p.judged ++ q.judged) (p.told ++ q.told)
    stops k r e kind = elim (get_cases p.told q.told k r e) [
      | inl f ↦ stop_first further q.hidden q.judged p q.stays (p.stops k r f kind)
      | inr (j, later, f) ↦ stop_after p j later (stop_within q.hidden q.judged refl here around p (λ V x loose under agrees named kept. refl) q.stays (q.stops j r f kind))
    ]

-- what is carried around a row hides what the row does
pub row_hides : {F : Frame} {asks : Asks} {a b : Sight} {G H : Letters} (scope : Scope) (n : ℕ) (p : Carried F (at_node n scope) (λ c. treated n c.env ∷ asks c) a G b H) → (carried_row {scope = scope} n p).hidden ≡ p.hidden
unfolding carried_row carried_under carried_into
row_hides scope n p = refl

-- what is carried where further nodes' demands are made hides what both parts do
pub further_hides : {F : Frame} {scope : Scope} {asks further : Asks} {a b c : Sight} {G H K : Letters} (own : ℕ → Bool) (told : (x : Context) → IsUnder scope x → (n : ℕ) → own n ≡ true → IsTreated n x.env (asks x)) (p : Carried F scope asks a G b H)
    (q : Carried F (with_own (λ n. scope.own n || own n) scope) further b H c K) → (carried_told {scope = scope} own told p q).hidden ≡ p.hidden ++ q.hidden
unfolding carried_told carried_into carried_trans carried_under
further_hides own told p q = refl
