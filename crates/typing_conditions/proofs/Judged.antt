-- Conditions one after the other, with their judgements and reports.
use Rattle.std.proofs.Common.{◌≡◌, ◌∙◌, ℕ, zero, suc, ◌+◌, take, Bool, true, false, List, [], ◌∷◌, ◌++◌, length, refl, sym, ap, subst, append_assoc, append-nil, length-append, arith}
use Rattle.tree_model.specs.Trees.{Place}
use Rattle.type_nodes.specs.Readings.{Types}
use Rattle.type_nodes.specs.Nodes.{Node}
use Rattle.signature_model.specs.Entries.{Environment}
use Rattle.typing_model.specs.Demands.{Site, Demand, Condition, same, instance, made, known, demand, treated, AllHold}
use Rattle.typing_model.specs.Contexts.{Choice}
use Rattle.typing_conditions.specs.Sights.{Report, Letters, AreGiven, AreNodes}
use Rattle.typing_conditions.specs.Judging.{Judgement, is_closing, judgements, refused, AreKept, JudgedBy, Follows, StartsWith, FallsShort, TellAll, TellBy, starts_known, AllSeen, AnySeen, treats_none, Meets, judged_at}

-- conditions that hold hold together
pub hold_both : (kept : Site → Bool) (xs ys : List Condition) → AllHold kept xs → AllHold kept ys → AllHold kept (xs ++ ys)
hold_both kept [] ys p q = q
hold_both kept (x ∷ xs) ys p q = (p.0, hold_both kept xs ys p.1 q)

-- the first of conditions that hold together hold
pub hold_left : (kept : Site → Bool) (xs ys : List Condition) → AllHold kept (xs ++ ys) → AllHold kept xs
hold_left kept [] ys h = tt
hold_left kept (x ∷ xs) ys h = (h.0, hold_left kept xs ys h.1)

-- and so do the others
pub hold_right : (kept : Site → Bool) (xs ys : List Condition) → AllHold kept (xs ++ ys) → AllHold kept ys
hold_right kept [] ys h = h
hold_right kept (x ∷ xs) ys h = hold_right kept xs ys h.1

-- the judgements of conditions together are those of each
pub judged_both : (kept : Site → Bool) (xs ys : List Condition) → judgements kept (xs ++ ys) ≡ judgements kept xs ++ judgements kept ys
judged_both kept [] ys = refl
judged_both kept (same t u ∷ xs) ys = judged_both kept xs ys
judged_both kept (instance s t ∷ xs) ys = judged_both kept xs ys
judged_both kept (made n t ∷ xs) ys = judged_both kept xs ys
judged_both kept (known t ∷ xs) ys = judged_both kept xs ys
judged_both kept (demand s at d ∷ xs) ys = ap (λ js. judged_at s (kept s) (is_closing d) ∷ js) (judged_both kept xs ys)
judged_both kept (treated n env ∷ xs) ys = judged_both kept xs ys

-- what isn't kept of two lists
pub refused_both : (xs ys : List Judgement) → refused (xs ++ ys) ≡ refused xs + refused ys
refused_both [] ys = omega arith
refused_both (x ∷ xs) ys = let h = refused_both xs ys in omega (arith, h)

-- as many reports as refused demands, of one list and then of another
pub counted_both : (xs ys : List Judgement) (rs ts : List Report) → length rs ≡ refused xs → length ts ≡ refused ys → length (rs ++ ts) ≡ refused (xs ++ ys)
counted_both xs ys rs ts e f = length-append rs ts ∙ (λ i. e i + f i) ∙ sym (refused_both xs ys)

-- what keeps judgements keeps the first of them
pub kept_left : (kept : Site → Bool) (xs ys : List Judgement) → AreKept kept (xs ++ ys) → AreKept kept xs
kept_left kept [] ys h = tt
kept_left kept (x ∷ xs) ys h = (h.0, kept_left kept xs ys h.1)

-- and the others
pub kept_right : (kept : Site → Bool) (xs ys : List Judgement) → AreKept kept (xs ++ ys) → AreKept kept ys
kept_right kept [] ys h = h
kept_right kept (x ∷ xs) ys h = kept_right kept xs ys h.1

-- a choice that has the types of letters has those of the first of them
pub given_left : (V : Types) (ch : Choice) (xs ys : Letters) → AreGiven (xs ++ ys) V ch → AreGiven xs V ch
given_left V ch [] ys h = tt
given_left V ch (x ∷ xs) ys h = (h.0, given_left V ch xs ys h.1)

-- and of the others
pub given_right : (V : Types) (ch : Choice) (xs ys : Letters) → AreGiven (xs ++ ys) V ch → AreGiven ys V ch
given_right V ch [] ys h = h
given_right V ch (x ∷ xs) ys h = given_right V ch xs ys h.1

-- and it has those of letters together
pub given_both : (V : Types) (ch : Choice) (xs ys : Letters) → AreGiven xs V ch → AreGiven ys V ch → AreGiven (xs ++ ys) V ch
given_both V ch [] ys p q = q
given_both V ch (x ∷ xs) ys p q = (p.0, given_both V ch xs ys p.1 q)

-- letters are nodes where they are together with others
pub nodes_right : (xs ys : Letters) (nodes : List Node) → AreNodes (xs ++ ys) nodes → AreNodes ys nodes
nodes_right [] ys nodes h = h
nodes_right (x ∷ xs) ys nodes h = nodes_right xs ys nodes h.1

pub nodes_left : (xs ys : Letters) (nodes : List Node) → AreNodes (xs ++ ys) nodes → AreNodes xs nodes
nodes_left [] ys nodes h = tt
nodes_left (x ∷ xs) ys nodes h = (h.0, nodes_left xs ys nodes h.1)

-- letters that are nodes are nodes together
pub nodes_both : (xs ys : Letters) (nodes : List Node) → AreNodes xs nodes → AreNodes ys nodes → AreNodes (xs ++ ys) nodes
nodes_both [] ys nodes p q = q
nodes_both (x ∷ xs) ys nodes p q = (p.0, nodes_both xs ys nodes p.1 q)

tell_by : (b : Bool) (at : Place) (d : Demand) (P Q : List Report → Type 0) (us rs : List Report) → ((zs : List Report) → P zs → Q (zs ++ us)) → TellBy b at d P rs → TellBy b at d Q (rs ++ us)
tell_by true at d P Q us rs f p = f rs p
tell_by false at d P Q us rs f (r, later, e, is, p) = (r, later ++ us, ap (λ zs. zs ++ us) e, is, f later p)

-- reports of conditions are reports of them together
pub tell_both : (kept : Site → Bool) (xs ys : List Condition) (rs us : List Report) → TellAll kept xs rs → TellAll kept ys us → TellAll kept (xs ++ ys) (rs ++ us)
tell_both kept [] ys rs us p q = subst (λ zs. TellAll kept ys (zs ++ us)) (sym p) q
tell_both kept (same t u ∷ xs) ys rs us p q = tell_both kept xs ys rs us p q
tell_both kept (instance s t ∷ xs) ys rs us p q = tell_both kept xs ys rs us p q
tell_both kept (made n t ∷ xs) ys rs us p q = tell_both kept xs ys rs us p q
tell_both kept (known t ∷ xs) ys rs us p q = tell_both kept xs ys rs us p q
tell_both kept (demand s at d ∷ xs) ys rs us p q =
    tell_by (kept s) at d (λ later. TellAll kept xs later) (λ later. TellAll kept (xs ++ ys) later) us rs (λ zs h. tell_both kept xs ys zs us h q) p
tell_both kept (treated n env ∷ xs) ys rs us p q = tell_both kept xs ys rs us p q

-- what comes first stays first
starts_front : (x : Condition) (xs ys : List Condition) → starts_known ((x ∷ xs) ++ ys) ≡ starts_known (x ∷ xs)
starts_front (same t u) xs ys = refl
starts_front (instance s t) xs ys = refl
starts_front (made n t) xs ys = refl
starts_front (known t) xs ys = refl
starts_front (demand s at d) xs ys = refl
starts_front (treated n env) xs ys = refl

-- conditions of which neither start with that a type is known don't start so together
pub starts_both : (xs ys : List Condition) → starts_known xs ≡ false → starts_known ys ≡ false → starts_known (xs ++ ys) ≡ false
starts_both [] ys p q = q
starts_both (x ∷ xs) ys p q = starts_front x xs ys ∙ p

-- nor do those that start with others
starts_after : (xs ys : List Condition) → starts_known ys ≡ false → starts_known (xs ++ ys) ≡ starts_known xs
starts_after [] ys q = q
starts_after (x ∷ xs) ys q = starts_front x xs ys

-- of what is treated in conditions together S holds where it does in each, if the second don't start with that a type is known
pub seen_both : (S : ℕ → Environment → Bool → Type 0) (xs ys : List Condition) → starts_known ys ≡ false → AllSeen S xs → AllSeen S ys → AllSeen S (xs ++ ys)
seen_both S [] ys none p q = q
seen_both S (same t u ∷ xs) ys none p q = seen_both S xs ys none p q
seen_both S (instance s t ∷ xs) ys none p q = seen_both S xs ys none p q
seen_both S (made n t ∷ xs) ys none p q = seen_both S xs ys none p q
seen_both S (known t ∷ xs) ys none p q = seen_both S xs ys none p q
seen_both S (demand s at d ∷ xs) ys none p q = seen_both S xs ys none p q
seen_both S (treated n env ∷ xs) ys none p q = (subst (S n env) (sym (starts_after xs ys none)) p.0, seen_both S xs ys none p.1 q)

-- conditions that treat nothing don't start so either
pub start_none : (cs : List Condition) → treats_none cs ≡ true → starts_known cs ≡ false
start_none [] e = refl
start_none (same t u ∷ cs) e = refl
start_none (instance s t ∷ cs) e = refl
start_none (made n t ∷ cs) e = refl
start_none (known t ∷ cs) e = absurd (cc)
start_none (demand s at d ∷ cs) e = refl
start_none (treated n env ∷ cs) e = refl

-- where nothing is treated it holds of all that is
pub seen_none : (S : ℕ → Environment → Bool → Type 0) (cs : List Condition) → treats_none cs ≡ true → AllSeen S cs
seen_none S [] e = tt
seen_none S (same t u ∷ cs) e = seen_none S cs e
seen_none S (instance s t ∷ cs) e = seen_none S cs e
seen_none S (made n t ∷ cs) e = seen_none S cs e
seen_none S (known t ∷ cs) e = absurd (cc)
seen_none S (demand s at d ∷ cs) e = seen_none S cs e
seen_none S (treated n env ∷ cs) e = absurd (cc)

-- what holds of any node holds of those that are treated
pub any_seen : (cs : List Condition) → AllSeen AnySeen cs
any_seen [] = tt
any_seen (same t u ∷ cs) = any_seen cs
any_seen (instance s t ∷ cs) = any_seen cs
any_seen (made n t ∷ cs) = any_seen cs
any_seen (known t ∷ cs) = any_seen cs
any_seen (demand s at d ∷ cs) = any_seen cs
any_seen (treated n env ∷ cs) = (tt, any_seen cs)

-- conditions are met, whatever is to hold of what is treated in them
pub meets_any : {S : ℕ → Environment → Bool → Type 0} {kept : Site → Bool} {cs : List Condition} {js : List Judgement} {rs : List Report} → Meets S kept cs js rs → Meets AnySeen kept cs js rs
meets_any {cs = cs} m = record { same = m.same; holds = m.holds; tells = m.tells; sees = any_seen cs; starts = m.starts }

judged_by : (kept : Site → Bool) (s : Site) (P Q : List Judgement → Type 0) (us js : List Judgement) → ((zs : List Judgement) → P zs → (AreKept kept zs → AreKept kept js) → Q (zs ++ us)) → JudgedBy kept s P js → JudgedBy kept s Q (js ++ us)
judged_by kept s P Q us [] f p = absurd p
judged_by kept s P Q us (j ∷ js) f p = (p.0, λ k. f js (p.1 k) (λ h. (k, h)))

-- judgements that follow the demands of conditions, and others those after them, follow them together
pub follows_both : (kept : Site → Bool) (xs ys : List Condition) (js us : List Judgement) → Follows kept xs js → (AreKept kept js → Follows kept ys us) → Follows kept (xs ++ ys) (js ++ us)
follows_both kept [] ys js us p q = subst (λ zs. Follows kept ys (zs ++ us)) (sym p) (q (subst (AreKept kept) (sym p) tt))
follows_both kept (same t u ∷ xs) ys js us p q = follows_both kept xs ys js us p q
follows_both kept (instance s t ∷ xs) ys js us p q = follows_both kept xs ys js us p q
follows_both kept (made n t ∷ xs) ys js us p q = follows_both kept xs ys js us p q
follows_both kept (known t ∷ xs) ys js us p q = follows_both kept xs ys js us p q
follows_both kept (demand s at d ∷ xs) ys js us p q =
    judged_by kept s (λ later. Follows kept xs later) (λ later. Follows kept (xs ++ ys) later) us js (λ zs h k. follows_both kept xs ys zs us h (λ g. q (k g))) p
follows_both kept (treated n env ∷ xs) ys js us p q = follows_both kept xs ys js us p q

-- where nothing is demanded nothing is judged
pub follows_silent : (kept : Site → Bool) (cs : List Condition) → judgements kept cs ≡ [] → Follows kept cs []
follows_silent kept [] e = refl
follows_silent kept (same t u ∷ cs) e = follows_silent kept cs e
follows_silent kept (instance s t ∷ cs) e = follows_silent kept cs e
follows_silent kept (made n t ∷ cs) e = follows_silent kept cs e
follows_silent kept (known t ∷ cs) e = follows_silent kept cs e
follows_silent kept (demand s at d ∷ cs) e = absurd (cc)
follows_silent kept (treated n env ∷ cs) e = follows_silent kept cs e

-- what falls short does so with others after it
pub short_left : (xs ys us vs : List Judgement) → FallsShort xs ys → FallsShort (xs ++ us) (ys ++ vs)
short_left xs ys us vs f = record {
  before = f.before;
  site = f.site;
  mine = f.mine;
  theirs = f.theirs;
  closing = f.closing;
  why = f.why;
  left = f.left ++ us;
  right = f.right ++ vs;
  short = ap (λ zs. zs ++ us) f.short ∙ append_assoc f.before (judged_at f.site f.mine f.closing ∷ f.left) us;
  full = ap (λ zs. zs ++ vs) f.full ∙ append_assoc f.before (judged_at f.site f.theirs f.closing ∷ f.right) vs;
}

-- and so does what falls short after the same judgements
pub short_right : (xs ys us vs : List Judgement) → xs ≡ ys → FallsShort us vs → FallsShort (xs ++ us) (ys ++ vs)
short_right xs ys us vs e f = record {
  before = ys ++ f.before;
  site = f.site;
  mine = f.mine;
  theirs = f.theirs;
  closing = f.closing;
  why = f.why;
  left = f.left;
  right = f.right;
  short = ap (λ zs. zs ++ us) e ∙ ap (λ zs. ys ++ zs) f.short ∙ sym (append_assoc ys f.before (judged_at f.site f.mine f.closing ∷ f.left));
  full = ap (λ zs. ys ++ zs) f.full ∙ sym (append_assoc ys f.before (judged_at f.site f.theirs f.closing ∷ f.right));
}

-- a list of judgements begins with itself
pub starts_all : (js : List Judgement) → StartsWith js js
starts_all js = record { rest = []; split = sym (append-nil js) }

-- what a list begins with it begins with when more is added
pub starts_left : (js first more : List Judgement) → StartsWith js first → StartsWith (js ++ more) first
starts_left js first more s = record { rest = s.rest ++ more; split = ap (λ xs. xs ++ more) s.split ∙ append_assoc first s.rest more }

-- and after the same judgements
pub starts_right : (front js first : List Judgement) → StartsWith js first → StartsWith (front ++ js) (front ++ first)
starts_right front js first s = record { rest = s.rest; split = ap (λ xs. front ++ xs) s.split ∙ sym (append_assoc front first s.rest) }

-- what falls short of a list falls short of it with more added
pub short_of_more : (xs ys more : List Judgement) → FallsShort xs ys → FallsShort xs (ys ++ more)
short_of_more xs ys more f = subst (λ zs. FallsShort zs (ys ++ more)) (append-nil xs) (short_left xs ys [] more f)

-- the first of conditions that hold hold
pub hold_first : (kept : Site → Bool) (k : ℕ) (cs : List Condition) → AllHold kept cs → AllHold kept (take k cs)
hold_first kept zero cs h = tt
hold_first kept (suc k) [] h = tt
hold_first kept (suc k) (x ∷ cs) h = (h.0, hold_first kept k cs h.1)

-- judgements are of what is kept
pub judged_kept : (kept : Site → Bool) (cs : List Condition) → AreKept kept (judgements kept cs)
judged_kept kept [] = tt
judged_kept kept (same t u ∷ cs) = judged_kept kept cs
judged_kept kept (instance s t ∷ cs) = judged_kept kept cs
judged_kept kept (made n t ∷ cs) = judged_kept kept cs
judged_kept kept (known t ∷ cs) = judged_kept kept cs
judged_kept kept (demand s at d ∷ cs) = (refl, judged_kept kept cs)
judged_kept kept (treated n env ∷ cs) = judged_kept kept cs
