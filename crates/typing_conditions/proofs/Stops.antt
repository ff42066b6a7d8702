-- Where two types were reported to differ: through one call after another.
use Rattle.std.proofs.Common.{◌≡◌, ◌∙◌, ◌++◌, ℕ, zero, suc, ◌+◌, ◌⊎◌, inl, inr, Bool, true, false, List, [], ◌∷◌, take, length, refl, sym, ap, subst, arith, append-nil, length-append, Some}
use Rattle.std.specs.Prelude.{slice_get}
use Rattle.std.proofs.lemmas.Bool.{eqb-true}
use Rattle.std.proofs.lemmas.List.{take-append-le}
use Rattle.std.proofs.lemmas.Option.{slice_get_within}
use Rattle.std.proofs.Math.Seq.{take-append-add}
use Rattle.tree_model.specs.Trees.{Place}
use Rattle.typing_model.specs.Demands.{Site, Demand, equal, Condition, known, demand, treated, Holds, AllHold}
use Rattle.typing_model.specs.Contexts.{Choice, Context}
use Rattle.signature_model.specs.Entries.{Environment}
use Rattle.signature_model.specs.Matching.{IsKnown}
use Rattle.type_model.specs.Types.{occurs}
use Rattle.type_nodes.specs.Nodes.{Var, bound_level}
use Rattle.type_nodes.specs.Readings.{Types}
use Rattle.level_unify.specs.Instances.{is_bound}
use Rattle.level_unify.specs.Solutions.{Loose}
use Rattle.level_unify.proofs.Variants.{bound_cell, bound_there}
use Rattle.level_unify.proofs.Unified.{fits_loosely}
use Rattle.env_table.specs.declared.faults.FaultKind.TheVariants as fault
use Rattle.typing_conditions.specs.Sights.{Sight, Key, Letters, Report, Agrees}
use Rattle.typing_conditions.specs.Frames.{Frame, Reaches}
use Rattle.typing_conditions.specs.Hiding.{HasCopy, IsDone}
use Rattle.typing_conditions.specs.Seeing.{IsSeen}
use Rattle.typing_conditions.specs.Judging.{Judgement, judged_at, judgements, refused, AreKept, Meets}
use Rattle.typing_conditions.specs.Carrying.{Asks, Scope, at_node, IsUnder, HoldsWritten, Enters, AreCopied, Stays, Continues, Carried, StopsAt, without_values, IsAround, UpTo, Lasts, GoesTo, ReadsAt, Stopped, Stop, AreStops}
use Rattle.typing_conditions.proofs.Own.{own_of}
use Rattle.typing_conditions.proofs.Judged.{hold_both, hold_left, hold_right, judged_both, refused_both, kept_left, kept_right, given_left, given_right, given_both, nodes_both}
use Rattle.typing_conditions.proofs.Meaning.{nodes_in, given_same, open_unbound}
use Rattle.typing_conditions.proofs.Hiding.{copy_itself, copy_of, copy_first, copy_second}
use Rattle.typing_conditions.proofs.Stays.{agrees_before, named_before, enters_next}
use Rattle.typing_conditions.proofs.Adequate.{never_short}

-- an entry of a list is one of it with others after it
pub get_first : {A : Type 0} (xs ys : List A) (k : ℕ) (x : A) → slice_get xs k ≡ Some x → slice_get (xs ++ ys) k ≡ Some x
get_first [] ys k x e = absurd (cc)
get_first (z ∷ xs) ys zero x e = e
get_first (z ∷ xs) ys (suc k) x e = get_first xs ys k x e

-- and with others before it
pub get_second : {A : Type 0} (xs ys : List A) (j : ℕ) → slice_get (xs ++ ys) (length xs + j) ≡ slice_get ys j
get_second [] ys j = ap (slice_get ys) (omega arith)
get_second (z ∷ xs) ys j = ap (slice_get ((z ∷ xs) ++ ys)) (let e : suc (length xs) + j ≡ suc (length xs + j) = omega arith in e) ∙ get_second xs ys j

-- an entry of two lists, with its place
pub get_cases : {A : Type 0} (xs ys : List A) (k : ℕ) (x : A) → slice_get (xs ++ ys) k ≡ Some x → (slice_get xs k ≡ Some x) ⊎ ((j : ℕ) × (k ≡ length xs + j) × (slice_get ys j ≡ Some x))
get_cases [] ys k x e = inr (k, omega arith, e)
get_cases (z ∷ xs) ys zero x e = inl e
get_cases (z ∷ xs) ys (suc k) x e = elim (get_cases xs ys k x e) [ inl f ↦ inl f | inr (j, more, f) ↦ inr (j, omega (arith, more), f) ]

-- the first of a list up to an entry, and the entry
pub take_here : {A : Type 0} (xs : List A) (k : ℕ) (x : A) → slice_get xs k ≡ Some x → take (suc k) xs ≡ take k xs ++ x ∷ []
take_here [] k x e = absurd (cc)
take_here (z ∷ xs) zero x e = let same : z ≡ x = cc in ap (λ y. y ∷ []) same
take_here (z ∷ xs) (suc k) x e = ap (λ ys. z ∷ ys) (take_here xs k x e)

-- what is so of a letter is so of its copy
done_copy : {b : Sight} {L M : Letters} {x : Key × ℕ} (h : HasCopy M x) → IsDone b L h.entry → IsDone b L x
done_copy {b} {L} {M} {x} h (inl t) = inl (record { item = t.item; place = t.place; key = sym h.key ∙ t.key; at = t.at ∙ ap Some h.node })
done_copy {b} {L} {M} {x} h (inr g) = inr (copy_of h g)

-- a state lasts where nothing changes but that letters have copies
pub lasts_same : (a : Sight) (G L : Letters) → AreCopied G L → Lasts a G a L
lasts_same a G L copied = record { longer = omega arith; loose = λ V h. h; recorded = λ i p n e. e; written = λ x n e. e; letters = λ k x e. inr (copied k x e) }

pub lasts_both : {a b c : Sight} {G L M : Letters} → Lasts a G b L → Lasts b L c M → Lasts a G c M
lasts_both {a} {b} {c} {G} {L} {M} p q = record {
  longer = let l = p.longer in let m = q.longer in omega arith;
  loose = λ V h. p.loose V (q.loose V h);
  recorded = λ i k n e. q.recorded i k n (p.recorded i k n e);
  written = λ x n e. q.written x n (p.written x n e);
  letters = λ k x e. elim (p.letters k x e) [
    | inl t ↦ inl (record { item = t.item; place = t.place; key = t.key; at = q.recorded t.item t.place x.1 t.at })
    | inr h ↦ done_copy h (q.letters h.place h.entry h.at)
  ];
}

-- what stays lasts
pub lasts_on : {F : Frame} {b c : Sight} {H K : Letters} (L : Letters) → Stays F b H c K → Lasts b L c L
lasts_on L s = record { longer = s.longer; loose = s.loose; recorded = s.recorded; written = s.written; letters = λ k x e. inr (copy_itself L k x e) }

-- what stays lasts, with the letters that were hidden before and those that are hidden then
pub lasts_stays : {F : Frame} {b c : Sight} {H K : Letters} (hidden more : Letters) → Stays F b H c K → Lasts b (hidden ++ H) c ((hidden ++ more) ++ K)
lasts_stays {F} {b} {c} {H} {K} hidden more s = record {
  longer = s.longer;
  loose = s.loose;
  recorded = s.recorded;
  written = s.written;
  letters = λ k x e. elim (get_cases hidden H k x e) [
    | inl f ↦ inr (copy_first (hidden ++ more) K (copy_first hidden more (copy_itself hidden k x f)))
    | inr (j, _, f) ↦ inr (copy_second (hidden ++ more) K (s.opens j x f))
  ];
}

-- the letters that are hidden then come after those that were hidden before
lasts_hidden : (c : Sight) (hidden more K : Letters) → Lasts c (more ++ K) c ((hidden ++ more) ++ K)
lasts_hidden c hidden more K = lasts_same c (more ++ K) ((hidden ++ more) ++ K) (λ k x e. elim (get_cases more K k x e) [
  | inl f ↦ copy_first (hidden ++ more) K (copy_second hidden more (copy_itself more k x f))
  | inr (j, _, f) ↦ copy_second (hidden ++ more) K (copy_itself K j x f)
])

-- where the state after all is another one, with other letters
pub stop_end : {F : Frame} {scope : Scope} {asks : Asks} {a b d : Sight} {G L M : Letters} {judged : List Judgement} {r : Report} {i : ℕ} → Lasts b L d M → Stop F scope asks a G b L judged i r → Stop F scope asks a G d M judged i r
stop_end lasts s = record {
  state = s.state;
  letters = s.letters;
  found = s.found;
  wanted = s.wanted;
  names = s.names;
  site = s.site;
  before = s.before;
  judged_so = s.judged_so;
  counts = s.counts;
  shows = s.shows;
  unbound = s.unbound;
  up_to = s.up_to;
  lasts = lasts_both s.lasts lasts;
  enters = λ named V c e kept k st at d h. s.enters (λ x n f. named x n (lasts.written x n f)) V c e kept k st at d h;
  reads = s.reads;
}

pub stops_end : {F : Frame} {scope : Scope} {asks : Asks} {a b d : Sight} {G L M : Letters} {judged : List Judgement} (told : List Report) → Lasts b L d M → AreStops F scope asks a G b L judged told → AreStops F scope asks a G d M judged told
stops_end told lasts stops k r e kind = stop_end lasts (stops k r e kind)

-- where nothing is done yet
pub up_to_same : {F : Frame} (a : Sight) (G : Letters) → UpTo F a G a G
up_to_same a G = record {
  longer = omega arith;
  reads = λ V h. h;
  recorded = λ i p n e. e;
  written = λ x n e. e;
  given = λ V ch h. h;
  inside = λ i. record { recorded = i.recorded; written = i.written; given = tt };
  sound = λ r. r.sound;
  bounds = λ r v h. h;
  free = λ r k V reads x n e v bound. open_unbound (k.each x n e) V reads v bound;
}

-- where nothing is reported there is none
pub none_stop : {F : Frame} {scope : Scope} {asks : Asks} {a b : Sight} {G L : Letters} {judged : List Judgement} → AreStops F scope asks a G b L judged []
none_stop k r e kind = absurd (cc)

-- the first of conditions, among more
pub stops_first : {kept : Site → Bool} {cs : List Condition} (ds : List Condition) {n k : ℕ} {s : Site} {at : Place} {d : Demand} → StopsAt kept cs n k s at d → StopsAt kept (cs ++ ds) n k s at d
stops_first {kept} {cs} ds {n} {k} {s} {at} {d} h = record {
  here = get_first cs ds k (demand s at d) h.here;
  refused = h.refused;
  counted = ap (λ xs. length (judgements kept xs)) same ∙ h.counted;
  holds = subst (AllHold kept) (sym same) h.holds;
}
  where
    same : take k (cs ++ ds) ≡ take k cs
    same = take-append-le k cs ds (let lt = slice_get_within cs k (demand s at d) h.here in omega arith)

-- conditions after others that hold
pub stops_second : {kept : Site → Bool} (cs : List Condition) {ds : List Condition} {n k : ℕ} {s : Site} {at : Place} {d : Demand} → AllHold kept cs → StopsAt kept ds n k s at d → StopsAt kept (cs ++ ds) (length (judgements kept cs) + n) (length cs + k) s at d
stops_second {kept} cs {ds} {n} {k} {s} {at} {d} holds h = record {
  here = get_second cs ds k ∙ h.here;
  refused = h.refused;
  counted = ap (λ xs. length (judgements kept xs)) same ∙ ap length (judged_both kept cs (take k ds)) ∙ length-append (judgements kept cs) (judgements kept (take k ds)) ∙ ap (λ m. length (judgements kept cs) + m) h.counted;
  holds = subst (AllHold kept) (sym same) (hold_both kept cs (take k ds) holds h.holds);
}
  where
    same : take (length cs + k) (cs ++ ds) ≡ cs ++ take k ds
    same = take-append-add cs ds k

-- a demand among conditions after others
pub record IsSecond (kept : Site → Bool) (cs ds : List Condition) (n : ℕ) (s : Site) (at : Place) (d : Demand) : Type 0 where
  pub place : ℕ
  pub count : ℕ
  pub first : AllHold kept cs
  pub total : length (judgements kept cs) + count ≡ n
  pub stops : StopsAt kept ds count place s at d

-- a demand among conditions is among the first or among the second
pub stops_cases : {kept : Site → Bool} (cs ds : List Condition) {n k : ℕ} {s : Site} {at : Place} {d : Demand} → StopsAt kept (cs ++ ds) n k s at d → StopsAt kept cs n k s at d ⊎ IsSecond kept cs ds n s at d
stops_cases {kept} cs ds {n} {k} {s} {at} {d} h = elim (get_cases cs ds k (demand s at d) h.here) [
  | inl e ↦ inl (first e (take-append-le k cs ds (let lt = slice_get_within cs k (demand s at d) e in omega arith)))
  | inr (j, more, e) ↦ inr (second j e (ap (λ i. take i (cs ++ ds)) more ∙ take-append-add cs ds j))
]
  where
    first : slice_get cs k ≡ Some (demand s at d) → take k (cs ++ ds) ≡ take k cs → StopsAt kept cs n k s at d
    first e same = record { here = e; refused = h.refused; counted = sym (ap (λ xs. length (judgements kept xs)) same) ∙ h.counted; holds = subst (AllHold kept) same h.holds }

    second : (j : ℕ) → slice_get ds j ≡ Some (demand s at d) → take k (cs ++ ds) ≡ cs ++ take j ds → IsSecond kept cs ds n s at d
    second j e same =
        let held = subst (AllHold kept) same h.holds in
        record {
          place = j;
          count = length (judgements kept (take j ds));
          first = hold_left kept cs (take j ds) held;
          total = sym (length-append (judgements kept cs) (judgements kept (take j ds))) ∙ sym (ap length (judged_both kept cs (take j ds))) ∙ sym (ap (λ xs. length (judgements kept xs)) same) ∙ h.counted;
          stops = record { here = e; refused = h.refused; counted = refl; holds = hold_right kept cs (take j ds) held };
        }

-- the environment of a node is so by conditions before these too
around_second : (scope : Scope) (c : Context) (n : ℕ) (env : Environment) (cs ds : List Condition) → IsAround scope c n env ds → IsAround scope c n env (cs ++ ds)
around_second scope c n env cs ds (inl (E, (j, e), alike)) = inl (E, (length cs + j, get_second cs ds j ∙ e), alike)
around_second scope c n env cs ds (inr h) = inr h

-- what is bound stays bound
bound_on : {F : Frame} {a b : Sight} {G H : Letters} → Stays F a G b H → Reaches F a → (v : ℕ) → is_bound a.nodes v ≡ true → is_bound b.nodes v ≡ true
bound_on {a = a} {b = b} s r v bound =
    let (scope, at) = bound_cell a.nodes v bound in
    let own = own_of b.nodes (s.reaches r).sound in
    bound_there b.nodes v (Var bound_level scope) ((s.refines r own.0 own.1).bounds v scope at) refl

-- A stop of a first call is one with more conditions after it.
pub stop_first : {F : Frame} {scope : Scope} {asks : Asks} {a b c : Sight} {G H K : Letters} (further : Asks) (hidden : Letters) (judged : List Judgement) {r : Report} {i : ℕ} (p : Carried F scope asks a G b H) → Stays F b H c K → Stop F scope asks a G b (p.hidden ++ H) p.judged i r →
    Stop F scope (λ x. asks x ++ further x) a G c ((p.hidden ++ hidden) ++ K) (p.judged ++ judged) i r
stop_first {F} {scope} {asks} {a} {b} {c} {G} {H} {K} further hidden judged {r} p stays s = record {
  state = s.state;
  letters = s.letters;
  found = s.found;
  wanted = s.wanted;
  names = s.names;
  site = s.site;
  before = s.before;
  judged_so = get_first p.judged judged s.before (judged_at s.site false false) s.judged_so;
  counts = ap refused (take-append-le s.before p.judged judged (let lt = slice_get_within p.judged s.before (judged_at s.site false false) s.judged_so in omega arith)) ∙ s.counts;
  shows = s.shows;
  unbound = s.unbound;
  up_to = s.up_to;
  lasts = lasts_both s.lasts (lasts_stays p.hidden hidden stays);
  enters = enters;
  reads = λ reached V x l.
      let h = s.reads reached V x (record { under = l.under; reads = l.reads; agrees = l.agrees; named = l.named; unbound = l.unbound; kept = kept_left x.kept p.judged judged l.kept; known = l.known }) in
      record {
        place = h.place;
        stops = stops_first (further x) h.stops;
        env = h.env;
        around = subst (IsAround scope x s.site.node h.env) (sym (take-append-le h.place (asks x) (further x) (let lt = slice_get_within (asks x) h.place (demand s.site r.at (equal (V s.found.0) (V s.wanted.0))) h.stops.here in omega arith))) h.around;
        stands = h.stands;
      };
}
  where
    enters : HoldsWritten scope c → (V : Types) (x : Context) → Enters F scope a G V x → AreKept x.kept (p.judged ++ judged) → (k : ℕ) (t : Site) (at : Place) (d : Demand) → StopsAt x.kept (asks x ++ further x) s.before k t at d → GoesTo F a s.state s.letters s.found s.wanted d V x.chosen
    enters named V x e kept k t at d h = elim (stops_cases (asks x) (further x) h) [
      | inl first ↦ s.enters (named_before scope stays named) V x e (kept_left x.kept p.judged judged kept) k t at d first
      | inr second ↦ elim (p.complete (named_before scope stays named) V x e second.first) [
        | inl goes ↦
            let lt = slice_get_within p.judged s.before (judged_at s.site false false) s.judged_so in
            let same = ap length goes.same in
            let total = second.total in
            absurd (omega arith)
        | inr short ↦ absurd (never_short x.kept (asks x) p.judged (kept_left x.kept p.judged judged kept) short)
      ]
    ]

-- a choice that agrees with a state agrees with one before it
agrees_up_to : {F : Frame} {a m : Sight} {G H : Letters} {owner : ℕ} {V : Types} {ch : Choice} → UpTo F a G m H → Agrees owner m H V ch → Agrees owner a G V ch
agrees_up_to {V = V} {ch = ch} u g = record {
  recorded = λ i k n e. g.recorded i k n (u.recorded i k n e);
  known = λ i k n e. g.known i k n (u.recorded i k n e);
  written = λ y n e. g.written y n (u.written y n e);
  given = u.given V ch g.given;
}

-- A stop of a second call is one after the conditions of the first, where what is asked then is what the second was asked, and its demand is one of a node whose demands are made there,
-- or of which the first conditions say that it is treated.
pub stop_within : {F : Frame} {scope inner : Scope} {asks further actual : Asks} {a b c : Sight} {G H K : Letters} (hidden : Letters) (judged : List Judgement) {r : Report} {i : ℕ} → inner.held ≡ scope.held → ((x : Context) → IsUnder scope x → IsUnder inner x) →
    ((x : Context) → IsUnder scope x → (n : ℕ) (env : Environment) (cs : List Condition) → IsAround inner x n env cs → IsAround scope x n env (asks x ++ cs)) → (p : Carried F scope asks a G b H) →
    ((V : Types) (x : Context) → Loose a.nodes V → IsUnder scope x → Agrees F.owner a G V x.chosen → HoldsWritten scope a → AreKept x.kept p.judged → further x ≡ actual x) → Stays F b H c K → Stop F inner actual b H c (hidden ++ K) judged i r →
    Stop F scope (λ x. asks x ++ further x) a G c ((p.hidden ++ hidden) ++ K) (p.judged ++ judged) (refused p.judged + i) r
stop_within {F} {scope} {inner} {asks} {further} {actual} {a} {b} {c} {G} {H} {K} hidden judged {r} held has around p by_kept stays s = record {
  state = s.state;
  letters = p.hidden ++ s.letters;
  found = s.found;
  wanted = s.wanted;
  names = s.names;
  site = s.site;
  before = length p.judged + s.before;
  judged_so = get_second p.judged judged s.before ∙ s.judged_so;
  counts = ap refused (take-append-add p.judged judged s.before) ∙ refused_both p.judged (take s.before judged) ∙ ap (λ m. refused p.judged + m) s.counts;
  shows = s.shows;
  unbound = s.unbound;
  up_to = record {
    longer = let l = p.stays.longer in let m = s.up_to.longer in omega arith;
    reads = λ V h. p.stays.reads V (s.up_to.reads V h);
    recorded = λ i k n e. s.up_to.recorded i k n (p.stays.recorded i k n e);
    written = λ x n e. s.up_to.written x n (p.stays.written x n e);
    given = λ V ch h. p.stays.given V ch (s.up_to.given V ch (given_right V ch p.hidden s.letters h));
    inside = λ i. s.up_to.inside (p.stays.inside i);
    sound = λ q. s.up_to.sound (p.stays.reaches q);
    bounds = λ q v h. s.up_to.bounds (p.stays.reaches q) v (bound_on p.stays q v h);
    free = λ q k. s.up_to.free (p.stays.reaches q) (p.stays.writes k);
  };
  lasts = record {
    longer = s.lasts.longer;
    loose = s.lasts.loose;
    recorded = s.lasts.recorded;
    written = s.lasts.written;
    letters = λ k x e. elim (get_cases p.hidden s.letters k x e) [
      | inl f ↦ inr (copy_first (p.hidden ++ hidden) K (copy_first p.hidden hidden (copy_itself p.hidden k x f)))
      | inr (j, _, f) ↦ (lasts_both s.lasts (lasts_hidden c p.hidden hidden K)).letters j x f
    ];
  };
  enters = enters;
  reads = reads;
}
  where
    named_in : (y : Sight) → HoldsWritten scope y → HoldsWritten inner y
    named_in y named z m e = let (k, f) = named z m e in (k, ap (λ xs. slice_get xs k) held ∙ f)

    enters : HoldsWritten scope c → (V : Types) (x : Context) → Enters F scope a G V x → AreKept x.kept (p.judged ++ judged) → (k : ℕ) (t : Site) (at : Place) (d : Demand) → StopsAt x.kept (asks x ++ further x) (length p.judged + s.before) k t at d → GoesTo F a s.state (p.hidden ++ s.letters) s.found s.wanted d V x.chosen
    enters named V x e kept k t at d h = elim (stops_cases (asks x) (further x) h) [
      | inl first ↦ absurd (early first)
      | inr second ↦ elim (p.complete named_b V x e second.first) [
        | inl goes ↦ on goes second (let same = ap length goes.same in let total = second.total in omega arith)
        | inr short ↦ absurd (never_short x.kept (asks x) p.judged kept_p short)
      ]
    ]
      where
        named_b : HoldsWritten scope b
        named_b = named_before scope stays named

        kept_p : AreKept x.kept p.judged
        kept_p = kept_left x.kept p.judged judged kept

        -- so many demands don't come before one of the first call
        early : StopsAt x.kept (asks x) (length p.judged + s.before) k t at d → ⊥
        early first =
            let one = take_here (asks x) k (demand t at d) first.here in
            let held : AllHold x.kept (take k (asks x) ++ demand t at d ∷ []) = hold_both x.kept (take k (asks x)) (demand t at d ∷ []) first.holds ((λ yes. absurd (let no : false ≡ true = sym first.refused ∙ yes in cc)), tt) in
            elim (p.first named_b (suc k) V x e (subst (AllHold x.kept) (sym one) held)) [
              | inl starts ↦
                  let counted = first.counted in
                  let more = ap length (ap (judgements x.kept) one ∙ judged_both x.kept (take k (asks x)) (demand t at d ∷ [])) ∙ length-append (judgements x.kept (take k (asks x))) (judgements x.kept (demand t at d ∷ [])) in
                  let whole = ap length starts.split ∙ length-append (judgements x.kept (take (suc k) (asks x))) starts.rest in
                  omega arith
              | inr short ↦ never_short x.kept (take (suc k) (asks x)) p.judged kept_p short
            ]

        on : (goes : Continues F asks a b H p.hidden p.judged V x) → (second : IsSecond x.kept (asks x) (further x) (length p.judged + s.before) t at d) → second.count ≡ s.before → GoesTo F a s.state (p.hidden ++ s.letters) s.found s.wanted d V x.chosen
        on goes second count =
            let same = by_kept V x (fits_loosely a.nodes V e.fits) e.under e.agrees (named_before scope p.stays named_b) kept_p in
            let there : StopsAt x.kept (actual x) s.before second.place t at d = subst (λ cs. StopsAt x.kept cs s.before second.place t at d) same (subst (λ n. StopsAt x.kept (further x) n second.place t at d) count second.stops) in
            let next = enters_next p.stays e goes.on in
            let to = s.enters (named_in c named) goes.types x (record { under = has x next.under; inside = next.inside; fits = next.fits; agrees = next.agrees }) (kept_right x.kept p.judged judged kept) second.place t at d there in
            let longer = s.up_to.longer in
            record {
              types = to.types;
              fits = to.fits;
              before = λ n lt. to.before n (let m = p.stays.longer in omega arith) ∙ goes.on.before n lt;
              agrees = record {
                recorded = to.agrees.recorded;
                known = to.agrees.known;
                written = to.agrees.written;
                given = given_both to.types x.chosen p.hidden s.letters (given_same p.hidden b.nodes goes.types to.types x.chosen goes.hidden_too.0 to.before goes.hidden_too.1) to.agrees.given;
              };
              nodes = nodes_both p.hidden s.letters s.state.nodes (nodes_in p.hidden b.nodes s.state.nodes longer goes.hidden_too.0) to.nodes;
              asks = to.asks;
            }

    reads : Reaches F a → (V : Types) (x : Context) → ReadsAt F scope s.state (p.hidden ++ s.letters) (p.judged ++ judged) V x → Stopped scope (asks x ++ further x) (length p.judged + s.before) s.site r.at s.found s.wanted s.names V x
    reads q V x l = record {
      place = length (asks x) + h.place;
      stops = subst (λ cs. StopsAt x.kept (asks x ++ cs) (length p.judged + s.before) (length (asks x) + h.place) s.site r.at (equal (V s.found.0) (V s.wanted.0))) (sym same)
          (subst (λ js. StopsAt x.kept (asks x ++ actual x) (length js + s.before) (length (asks x) + h.place) s.site r.at (equal (V s.found.0) (V s.wanted.0))) meets.same (stops_second (asks x) meets.holds h.stops));
      env = h.env;
      around = subst (λ cs. IsAround scope x s.site.node h.env (take (length (asks x) + h.place) (asks x ++ cs))) (sym same)
          (subst (IsAround scope x s.site.node h.env) (sym (take-append-add (asks x) (actual x) h.place)) (around x l.under s.site.node h.env (take h.place (actual x)) h.around));
      stands = h.stands;
    }
      where
        here : Agrees F.owner s.state s.letters V x.chosen
        here = record { recorded = l.agrees.recorded; known = l.agrees.known; written = l.agrees.written; given = given_right V x.chosen p.hidden s.letters l.agrees.given }

        -- what is read here is read at the state between
        between : Agrees F.owner b H V x.chosen
        between = agrees_up_to s.up_to here

        named_b : HoldsWritten scope b
        named_b y n e = l.named y n (s.up_to.written y n e)

        kept_p : AreKept x.kept p.judged
        kept_p = kept_left x.kept p.judged judged l.kept

        meets : Meets (IsSeen b.scopes b.types V) x.kept (asks x) p.judged p.told
        meets = p.sound q V x (record {
          under = l.under;
          reads = s.up_to.reads V l.reads;
          agrees = between;
          hidden_too = given_left V x.chosen p.hidden s.letters l.agrees.given;
          named = named_b;
          unbound = λ k y e v bound. l.unbound k y e v (s.up_to.bounds (p.stays.reaches q) v bound);
          kept = kept_p;
          scopes = b.scopes;
          in_the_end = λ i k env e. e;
          types = b.types;
          types_too = λ i k m e. e;
        })

        same : further x ≡ actual x
        same = by_kept V x (p.stays.loose V (fits_loosely b.nodes V (s.up_to.reads V l.reads).fits)) l.under (agrees_before p.stays between) (named_before scope p.stays named_b) kept_p

        h : Stopped inner (actual x) s.before s.site r.at s.found s.wanted s.names V x
        h = s.reads (p.stays.reaches q) V x (record { under = has x l.under; reads = l.reads; agrees = here; named = named_in s.state l.named; unbound = λ k y e v bound. l.unbound k y (ap (λ xs. slice_get xs k) (sym held) ∙ e) v bound; kept = kept_right x.kept p.judged judged l.kept; known = l.known })

-- the same in one scope
pub stop_then : {F : Frame} {scope : Scope} {asks further actual : Asks} {a b c : Sight} {G H K : Letters} (hidden : Letters) (judged : List Judgement) {r : Report} {i : ℕ} (p : Carried F scope asks a G b H) →
    ((V : Types) (x : Context) → Loose a.nodes V → IsUnder scope x → Agrees F.owner a G V x.chosen → HoldsWritten scope a → AreKept x.kept p.judged → further x ≡ actual x) → Stays F b H c K → Stop F scope actual b H c (hidden ++ K) judged i r →
    Stop F scope (λ x. asks x ++ further x) a G c ((p.hidden ++ hidden) ++ K) (p.judged ++ judged) (refused p.judged + i) r
stop_then {scope = scope} {asks = asks} hidden judged p by_kept stays s = stop_within hidden judged refl (λ x u. u) (λ x u n env cs. around_second scope x n env (asks x) cs) p by_kept stays s

-- A report of a second call comes after those of the first, which are as many as demands of it that aren't kept.
pub stop_after : {F : Frame} {scope : Scope} {asks whole : Asks} {a b c : Sight} {G H L : Letters} {judged : List Judgement} {r : Report} {k : ℕ} (p : Carried F scope asks a G b H) (j : ℕ) → k ≡ length p.told + j → Stop F scope whole a G c L judged (refused p.judged + j) r → Stop F scope whole a G c L judged k r
stop_after {F} {scope} {whole = whole} {a = a} {c = c} {G = G} {L = L} {judged = judged} {r = r} p j e s = subst (λ n. Stop F scope whole a G c L judged n r) (sym (e ∙ ap (λ n. n + j) p.counted)) s

-- the stops of two calls, one after the other
pub stops_both : {F : Frame} {scope : Scope} {asks further actual : Asks} {a b c : Sight} {G H K : Letters} (p : Carried F scope asks a G b H) →
    ((V : Types) (x : Context) → Loose a.nodes V → IsUnder scope x → Agrees F.owner a G V x.chosen → HoldsWritten scope a → AreKept x.kept p.judged → further x ≡ actual x) → (q : Carried F scope actual b H c K) →
    AreStops F scope (λ x. asks x ++ further x) a G c ((p.hidden ++ q.hidden) ++ K) (p.judged ++ q.judged) (p.told ++ q.told)
stops_both {further = further} p by_kept q k r e kind = elim (get_cases p.told q.told k r e) [
  | inl f ↦ stop_first further q.hidden q.judged p q.stays (p.stops k r f kind)
  | inr (j, later, f) ↦ stop_after p j later (stop_then q.hidden q.judged p by_kept q.stays (q.stops j r f kind))
]

-- the conditions may be written in another way
pub stop_as : {F : Frame} {scope : Scope} {asks others : Asks} {a b : Sight} {G L : Letters} {judged : List Judgement} {r : Report} {i : ℕ} → ((c : Context) → asks c ≡ others c) → Stop F scope asks a G b L judged i r → Stop F scope others a G b L judged i r
stop_as {scope = scope} {asks = asks} {others = others} {r = r} same s = record {
  state = s.state;
  letters = s.letters;
  found = s.found;
  wanted = s.wanted;
  names = s.names;
  site = s.site;
  before = s.before;
  judged_so = s.judged_so;
  counts = s.counts;
  shows = s.shows;
  unbound = s.unbound;
  up_to = s.up_to;
  lasts = s.lasts;
  enters = λ named V c e kept k t at d h. s.enters named V c e kept k t at d (subst (λ cs. StopsAt c.kept cs s.before k t at d) (sym (same c)) h);
  reads = λ reached V c l. subst (λ cs. Stopped scope cs s.before s.site r.at s.found s.wanted s.names V c) (same c) (s.reads reached V c l);
}

-- where conditions that ask no demand, and hide nothing, come after
pub stop_silent : {F : Frame} {scope : Scope} {asks : Asks} {a b c : Sight} {G H K : Letters} (further : Asks) {r : Report} {i : ℕ} (p : Carried F scope asks a G b H) → Stays F b H c K → Stop F scope asks a G b (p.hidden ++ H) p.judged i r →
    Stop F scope (λ x. asks x ++ further x) a G c (p.hidden ++ K) p.judged i r
stop_silent {F} {scope} {asks} {a} {b} {c} {G} {H} {K} further {r} {i} p stays s =
    subst (λ hs. Stop F scope (λ x. asks x ++ further x) a G c (hs ++ K) p.judged i r) (append-nil p.hidden)
    (subst (λ js. Stop F scope (λ x. asks x ++ further x) a G c ((p.hidden ++ []) ++ K) js i r) (append-nil p.judged) (stop_first further [] [] p stays s))

-- a condition that is no demand, and holds where no unknown type stands in the types of nodes
pub record IsSilent (one : Context → Condition) : Type 0 where
  pub silent : (c : Context) (cs : List Condition) → judgements c.kept (one c ∷ cs) ≡ judgements c.kept cs
  pub other : (c : Context) (s : Site) (at : Place) (d : Demand) → one c ≡ demand s at d → ⊥
  pub holds : (c : Context) → ((n : ℕ) → IsKnown (c.chosen.type_at n)) → Holds c.kept (one c)

-- it may come before
pub stop_cons : {F : Frame} {scope : Scope} {asks : Asks} {a b : Sight} {G L : Letters} {judged : List Judgement} {r : Report} {i : ℕ} (one : Context → Condition) → IsSilent one → Stop F scope asks a G b L judged i r → Stop F scope (λ c. one c ∷ asks c) a G b L judged i r
stop_cons {F} {scope} {asks} {a} {b} {G} {L} {judged} {r} one is s = record {
  state = s.state;
  letters = s.letters;
  found = s.found;
  wanted = s.wanted;
  names = s.names;
  site = s.site;
  before = s.before;
  judged_so = s.judged_so;
  counts = s.counts;
  shows = s.shows;
  unbound = s.unbound;
  up_to = s.up_to;
  lasts = s.lasts;
  enters = enters;
  reads = λ reached V c l.
      let h = s.reads reached V c l in
      record {
        place = suc h.place;
        stops = record { here = h.stops.here; refused = h.stops.refused; counted = ap length (is.silent c (take h.place (asks c))) ∙ h.stops.counted; holds = (is.holds c l.known, h.stops.holds) };
        env = h.env;
        around = elim h.around [ inl (E, (j, e), alike) ↦ inl (E, (suc j, e), alike) | inr i ↦ inr i ];
        stands = h.stands;
      };
}
  where
    enters : HoldsWritten scope b → (V : Types) (c : Context) → Enters F scope a G V c → AreKept c.kept judged → (k : ℕ) (t : Site) (at : Place) (d : Demand) → StopsAt c.kept (one c ∷ asks c) s.before k t at d → GoesTo F a s.state s.letters s.found s.wanted d V c.chosen
    enters named V c e kept zero t at d h = absurd (is.other c t at d (let same = h.here in cc))
    enters named V c e kept (suc k) t at d h = s.enters named V c e kept k t at d (record { here = h.here; refused = h.refused; counted = sym (ap length (is.silent c (take k (asks c)))) ∙ h.counted; holds = h.holds.1 })

-- that a node is treated is such a condition
pub treated_silent : (n : ℕ) → IsSilent (λ c. treated n c.env)
treated_silent n = record { silent = λ c cs. refl; other = λ c s at d e. absurd (cc); holds = λ c known. tt }

-- and that the type of a node is known
pub known_silent : (n : ℕ) → IsSilent (λ c. known (c.chosen.type_at n))
known_silent n = record { silent = λ c cs. refl; other = λ c s at d e. absurd (cc); holds = λ c known. known n }

-- a report of another kind has no stop
pub other_stop : {F : Frame} {scope : Scope} {asks : Asks} {a b : Sight} {G L : Letters} {judged : List Judgement} (r : Report) → (r.kind ≡ fault.Equal → ⊥) → AreStops F scope asks a G b L judged (r ∷ [])
other_stop r other zero x e kind = absurd (other (let same : r ≡ x = cc in ap (λ (y : Report). y.kind) same ∙ kind))
other_stop r other (suc k) x e kind = absurd (cc)

-- the environment of the demands of nodes, in a context by one that it decides
abbrev pub AreAround : Scope → Scope → (Context → Context) → Asks → Type 0
AreAround scope inner into asks = (c : Context) → IsUnder scope c → (k n : ℕ) (env : Environment) (s : Site) (at : Place) (d : Demand) → slice_get (asks (into c)) k ≡ Some (demand s at d) →
    IsAround inner (into c) n env (take k (asks (into c))) → IsAround scope c n env (take k (asks (into c)))

-- where the other context has the same environment but for values, and the demands of the same node are made there
pub around_values : (scope inner : Scope) (into : Context → Context) (asks : Asks) → inner.own ≡ scope.own → ((c : Context) → IsUnder scope c → without_values (into c).env ≡ without_values c.env) → AreAround scope inner into asks
around_values scope inner into asks same alike c u k n env s at d e (inl h) = inl h
around_values scope inner into asks same alike c u k n env s at d e (inr (one, here)) = inr (ap (λ (own : ℕ → Bool). own n) (sym same) ∙ one, here ∙ alike c u)

-- where the conditions say first that this node is treated
pub around_told : (scope : Scope) (rest : Asks) (n : ℕ) → AreAround scope (at_node n scope) (λ c. c) (λ c. treated n c.env ∷ rest c)
around_told scope rest n c u k m env s at d e (inl h) = inl h
around_told scope rest n c u zero m env s at d e (inr h) = absurd (cc)
around_told scope rest n c u (suc k) m env s at d e (inr (one, here)) = inl (c.env, (zero, ap (λ x. Some (treated x c.env)) (eqb-true n m one)), here)

-- a stop in a context by one in another that it decides
pub stop_under : {F : Frame} {scope inner : Scope} {asks : Asks} {a b : Sight} {G L : Letters} {judged : List Judgement} {r : Report} {i : ℕ} (into : Context → Context) → inner.held ≡ scope.held → ((c : Context) → ((into c).kept ≡ c.kept) × ((into c).chosen ≡ c.chosen)) →
    ((c : Context) → IsUnder scope c → IsUnder inner (into c)) → AreAround scope inner into asks → Stop F inner asks a G b L judged i r → Stop F scope (λ c. asks (into c)) a G b L judged i r
stop_under {F} {scope} {inner} {asks} {a} {b} {G} {L} {judged} {r} into held still has around s = record {
  state = s.state;
  letters = s.letters;
  found = s.found;
  wanted = s.wanted;
  names = s.names;
  site = s.site;
  before = s.before;
  judged_so = s.judged_so;
  counts = s.counts;
  shows = s.shows;
  unbound = s.unbound;
  up_to = s.up_to;
  lasts = s.lasts;
  enters = λ named V c e kept k t at d h.
      subst (GoesTo F a s.state s.letters s.found s.wanted d V) (still c).1
      (s.enters (named_in b named) V (into c) (record { under = has c e.under; inside = e.inside; fits = e.fits; agrees = subst (Agrees F.owner a G V) (sym (still c).1) e.agrees })
      (subst (λ x. AreKept x judged) (sym (still c).0) kept) k t at d (subst (λ x. StopsAt x (asks (into c)) s.before k t at d) (sym (still c).0) h));
  reads = λ reached V c l.
      let chosen = (still c).1 in
      let h = s.reads reached V (into c) (record {
        under = has c l.under;
        reads = l.reads;
        agrees = subst (Agrees F.owner s.state s.letters V) (sym chosen) l.agrees;
        named = named_in s.state l.named;
        unbound = λ k x e v bound. ap (λ ch. occurs v (ch.written F.owner x)) chosen ∙ l.unbound k x (ap (λ xs. slice_get xs k) (sym held) ∙ e) v bound;
        kept = subst (λ k. AreKept k judged) (sym (still c).0) l.kept;
        known = λ n. subst (λ ch. IsKnown (ch.type_at n)) (sym chosen) (l.known n);
      }) in
      record {
        place = h.place;
        stops = subst (λ x. StopsAt x (asks (into c)) s.before h.place s.site r.at (equal (V s.found.0) (V s.wanted.0))) (still c).0 h.stops;
        env = h.env;
        around = around c l.under h.place s.site.node h.env s.site r.at (equal (V s.found.0) (V s.wanted.0)) h.stops.here h.around;
        stands = h.stands;
      };
}
  where
    named_in : (x : Sight) → HoldsWritten scope x → HoldsWritten inner x
    named_in x named y m e = let (k, f) = named y m e in (k, ap (λ xs. slice_get xs k) held ∙ f)

-- Conditions may be written in another way, where they are the same in each context that the state before allows.
pub stop_here : {F : Frame} {scope : Scope} {asks others : Asks} {a b : Sight} {G L : Letters} {judged : List Judgement} {r : Report} {i : ℕ} →
    ((V : Types) (c : Context) → Loose a.nodes V → IsUnder scope c → Agrees F.owner a G V c.chosen → HoldsWritten scope a → asks c ≡ others c) → Stop F scope asks a G b L judged i r → Stop F scope others a G b L judged i r
stop_here {F} {scope} {asks} {others} {a} {b} {G} {L} {judged} {r} same s = record {
  state = s.state;
  letters = s.letters;
  found = s.found;
  wanted = s.wanted;
  names = s.names;
  site = s.site;
  before = s.before;
  judged_so = s.judged_so;
  counts = s.counts;
  shows = s.shows;
  unbound = s.unbound;
  up_to = s.up_to;
  lasts = s.lasts;
  enters = λ named V c e kept k t at d h.
      let eq = same V c (fits_loosely a.nodes V e.fits) e.under e.agrees (λ x n f. named x n (s.lasts.written x n (s.up_to.written x n f))) in
      s.enters named V c e kept k t at d (subst (λ cs. StopsAt c.kept cs s.before k t at d) (sym eq) h);
  reads = λ reached V c l.
      let eq = same V c (fits_loosely a.nodes V (s.up_to.reads V l.reads).fits) l.under (agrees_up_to s.up_to l.agrees) (λ x n f. l.named x n (s.up_to.written x n f)) in
      subst (λ cs. Stopped scope cs s.before s.site r.at s.found s.wanted s.names V c) eq (s.reads reached V c l);
}
