-- The tokens that the parser keeps of an open item end no sooner than the item starts.
use Rattle.std.proofs.Common.{◌≡◌, ℕ, ◌≤◌, Bool, true, false, ◌&&◌, List, [], ◌∷◌, ◌++◌, Option, Some, None, refl, sym, ◌∙◌, ap, subst, inl, inr, append_assoc, append-nil, if◌then◌else◌, nat_eq}
use Rattle.token_model.specs.Kinds.{Tok}
use Rattle.grammar_model.specs.Tables.{Table}
use Rattle.grammar_model.specs.Machine.{Stack}
use Rattle.recovery_model.specs.Steps as rules
use Rattle.recovery_model.specs.Steps.{Fault, added, skipped, too_deep, cut}
use Rattle.recovery_model.specs.Items.{State, Mark, sound, held, marked, Item, item, Parser, parser, item_row, item_spot, item_behind, begins_item, has_item, is_cut, closed_item, cut_step}
use Rattle.recovery_model.specs.Recovery.{faulted, item_after, go_on, retake_by, retake, retake_all, with_token, step_sound, is_marked, step_by, step}
use Rattle.grammar_laws.proofs.Laws.{Found}
use Rattle.recovery_laws.proofs.Counted.{IsSettled, Settled}
use Rattle.work_model.specs.Work.{open_start, run_on}
use Rattle.work_laws.proofs.Frames.{AllBegun, IsItemRow, Moves, Takes, takes_step, moves_item}

-- these tokens end at a place or after it
abbrev pub EndFrom : ℕ → List Tok → Type 0
EndFrom n [] = Unit {0}
EndFrom n (t ∷ ts) = (n ≤ t.end) × EndFrom n ts

-- each token starts no later than those after it end
abbrev pub InOrder : List Tok → Type 0
InOrder [] = Unit {0}
InOrder (t ∷ ts) = EndFrom t.start ts × InOrder ts

order_last : (xs ys : List Tok) → InOrder (xs ++ ys) → InOrder ys
order_last [] ys h = h
order_last (x ∷ xs) ys h = order_last xs ys h.1

end_on : (n : ℕ) (xs ys : List Tok) → EndFrom n xs → EndFrom n ys → EndFrom n (xs ++ ys)
end_on n [] ys a b = b
end_on n (x ∷ xs) ys a b = (a.0, end_on n xs ys a.1 b)

-- an item that is open in these frames starts no later than these tokens end
pub record Leads (S : Stack) (rs : List Tok) : Type 0 where
  pub begun : AllBegun S
  pub before : (n : ℕ) → has_item S ≡ true → open_start S ≡ Some n → EndFrom n rs

leads_moved : (S U : Stack) (rs : List Tok) → Moves S U → Leads S rs → Leads U rs
leads_moved S U rs m l = record { begun = m.begun; before = λ n h is. let (has, same) = m.start h in l.before n has (sym same ∙ is) }

leads_taken : (S U : Stack) (t : Tok) (rs : List Tok) → EndFrom t.start rs → Takes S t U → Leads S (t ∷ rs) → Leads U rs
leads_taken S U t rs later k l = record {
  begun = k.begun;
  before = λ n h is. elim (k.start h) [
    | inl x ↦ (l.before n x.0 (sym x.1 ∙ is)).1
    | inr y ↦ let both : Some t.start ≡ Some n = sym y.1 ∙ is in let same : t.start ≡ n = cc in subst (λ m. EndFrom m rs) same later
  ];
}

has_begun : (S : Stack) → begins_item S ≡ true → has_item S ≡ true
has_begun [] h = absurd (cc)
has_begun (f ∷ S) h = by (nat_eq f.number item_row) (nat_eq f.at item_spot) h
  where
    by : (a b : Bool) → (a && b) ≡ true → (if a then true else has_item S) ≡ true
    by true b h = refl
    by false b h = absurd (cc)

-- an item that keeps no tokens; it has a frame, where it has no fault
abbrev FreeMark : Stack → Mark → Type 0
FreeMark S sound = has_item S ≡ true
FreeMark S (held q ts) = ⊥
FreeMark S marked = Unit {0}

abbrev IsFree : Stack → Option Item → Type 0
IsFree S None = Unit {0}
IsFree S (Some i) = FreeMark S i.mark

free_settled : (S : Stack) (i : Option Item) → IsFree S i → Settled i
free_settled S None h = tt
free_settled S (Some i) h = by i.mark h
  where
    by : (m : Mark) → FreeMark S m → IsSettled m
    by sound h = tt
    by (held q ts) h = absurd h
    by marked h = tt

free_there : (S : Stack) (i : Option Item) → has_item S ≡ true → Settled i → IsFree S i
free_there S None has h = tt
free_there S (Some i) has h = by i.mark h
  where
    by : (m : Mark) → IsSettled m → FreeMark S m
    by sound h = has
    by (held q ts) h = absurd h
    by marked h = tt

free_behind : (S : Stack) (t : Tok) (i : Option Item) → Settled i → IsFree S (item_behind S t i)
free_behind S t i h = by (begins_item S) refl (has_item S) refl
  where
    by : (a : Bool) → begins_item S ≡ a → (b : Bool) → has_item S ≡ b → IsFree S (if a then Some (item t.col sound) else (if b then i else None))
    by true begins b has = has_begun S begins
    by false begins true has = free_there S i has h
    by false begins false has = tt

free_faulted : (S : Stack) (i : Option Item) → IsFree S (faulted i)
free_faulted S None = tt
free_faulted S (Some i) = tt

settled_faulted : (i : Option Item) → Settled (faulted i)
settled_faulted None = tt
settled_faulted (Some i) = tt

free_after : (S : Stack) (t : Tok) (o : Option Fault) (i : Option Item) → Settled i → IsFree S (item_after S t o i)
free_after S t None i h = free_behind S t i h
free_after S t (Some (added p n)) i h = free_behind S t (faulted i) (settled_faulted i)
free_after S t (Some (skipped u)) i h = free_faulted S i
free_after S t (Some (too_deep u)) i h = free_faulted S i
free_after S t (Some (cut p)) i h = free_faulted S i

-- a parser with such an item, before these tokens
record Free (p : Parser) (rs : List Tok) : Type 0 where
  leads : Leads p.state.stack rs
  free : IsFree p.state.stack p.item

free_go_on : (G : Table) → Found G → IsItemRow G → (s : State) (t : Tok) (rs : List Tok) (i : Option Item) → EndFrom t.start rs → Leads s.stack (t ∷ rs) → Settled i → Free (go_on i t (rules.step G s.stack s.place t)).parser rs
free_go_on G L I s t rs i later l h =
    let r = rules.step G s.stack s.place t in
    record { leads = leads_taken s.stack r.stack t rs later (takes_step G L I s.stack s.place t l.begun) l; free = free_after r.stack t r.fault i h }

free_cut : (G : Table) → Found G → IsItemRow G → (s : State) (t : Tok) (rs : List Tok) → EndFrom t.start rs → Leads s.stack (t ∷ rs) → Free (cut_step G s t).parser rs
free_cut G L I s t rs later l =
    let c = closed_item G s.stack s.place in
    let m = leads_moved s.stack c.0 (t ∷ rs) (moves_item G s.stack s.place l.begun) l in
    let r = rules.step G c.0 s.place t in
    record { leads = leads_taken c.0 r.stack t rs later (takes_step G L I c.0 s.place t m.begun) m; free = free_behind r.stack t None tt }

-- a token that is taken again
free_retake : (G : Table) → Found G → IsItemRow G → (p : Parser) (t : Tok) (rs : List Tok) → EndFrom t.start rs → Leads p.state.stack (t ∷ rs) → IsFree p.state.stack p.item → Free (retake G p t).parser rs
free_retake G L I p t rs later l h = by p.item (free_settled p.state.stack p.item h)
  where
    r : rules.Stepped
    r = rules.step G p.state.stack p.state.place t

    by : (o : Option Item) → Settled o → Free (retake_by G p.state o t r).parser rs
    by None h = free_go_on G L I p.state t rs None later l tt
    by (Some i) h = whether (is_cut i.col t r)
      where
        whether : (b : Bool) → Free (if b then cut_step G p.state t else go_on (Some i) t r).parser rs
        whether true = free_cut G L I p.state t rs later l
        whether false = free_go_on G L I p.state t rs (Some i) later l h

free_all : (G : Table) → Found G → IsItemRow G → (ts : List Tok) (p : Parser) (rs : List Tok) → InOrder (ts ++ rs) → Leads p.state.stack (ts ++ rs) → IsFree p.state.stack p.item → Free (retake_all G ts p).parser rs
free_all G L I [] p rs order l h = record { leads = l; free = h }
free_all G L I (t ∷ ts) p rs order l h =
    let f = free_retake G L I p t (ts ++ rs) order.0 l h in
    free_all G L I ts (retake G p t).parser rs order.1 f.leads f.free

-- the frames to which an item may go back, and the tokens from there on, the last of those so far
pub record Back (q : State) (ts us rs : List Tok) : Type 0 where
  pub leads : Leads q.stack (ts ++ rs)
  pub there : has_item q.stack ≡ true
  pub first : List Tok
  pub last : us ≡ first ++ ts

-- an item that keeps tokens has a frame, and starts no later than they end
pub record Holds (S : Stack) (q : State) (ts us rs : List Tok) : Type 0 where
  pub has : has_item S ≡ true
  pub back : Back q ts us rs
  pub after : (n : ℕ) → open_start S ≡ Some n → EndFrom n ts

abbrev pub IsKeptMark : Stack → List Tok → List Tok → Mark → Type 0
IsKeptMark S us rs sound = has_item S ≡ true
IsKeptMark S us rs (held q ts) = Holds S q ts us rs
IsKeptMark S us rs marked = Unit {0}

abbrev pub IsKept : Stack → List Tok → List Tok → Option Item → Type 0
IsKept S us rs None = Unit {0}
IsKept S us rs (Some i) = IsKeptMark S us rs i.mark

kept_free : (S : Stack) (us rs : List Tok) (i : Option Item) → IsFree S i → IsKept S us rs i
kept_free S us rs None h = tt
kept_free S us rs (Some i) h = by i.mark h
  where
    by : (m : Mark) → FreeMark S m → IsKeptMark S us rs m
    by sound h = h
    by (held q ts) h = absurd h
    by marked h = tt

kept_after : (S : Stack) (t : Tok) (us rs : List Tok) (col : ℕ) (m : Mark) (o : Option Fault) → (begins_item S ≡ false → has_item S ≡ true → IsKeptMark S us rs m) → IsKept S us rs (item_after S t o (Some (item col m)))
kept_after S t us rs col m None h = by (begins_item S) refl (has_item S) refl
  where
    by : (a : Bool) → begins_item S ≡ a → (b : Bool) → has_item S ≡ b → IsKept S us rs (if a then Some (item t.col sound) else (if b then Some (item col m) else None))
    by true begins b has = has_begun S begins
    by false begins true has = h begins has
    by false begins false has = tt
kept_after S t us rs col m (Some (added p n)) h = kept_free S us rs (item_behind S t (Some (item col marked))) (free_behind S t (Some (item col marked)) tt)
kept_after S t us rs col m (Some (skipped u)) h = tt
kept_after S t us rs col m (Some (too_deep u)) h = tt
kept_after S t us rs col m (Some (cut p)) h = tt

-- to where an item may go back
abbrev Backs : Mark → List Tok → List Tok → Type 0
Backs sound us rs = Unit {0}
Backs (held q ts) us rs = Back q ts us rs
Backs marked us rs = Unit {0}

-- what is known of an item with a token more
abbrev Ready : Stack → List Tok → List Tok → Mark → Type 0
Ready U us rs m = Backs m us rs × (begins_item U ≡ false → has_item U ≡ true → IsKeptMark U us rs m)

-- an item that goes on starts where it did
same_start : (S U : Stack) (t : Tok) (n : ℕ) → Takes S t U → begins_item U ≡ false → has_item U ≡ true → open_start U ≡ Some n → (has_item S ≡ true) × (open_start S ≡ Some n)
same_start S U t n k begins has is = elim (k.start has) [ inl x ↦ (x.0, sym x.1 ∙ is) | inr y ↦ let bad : true ≡ false = sym y.0 ∙ begins in absurd (cc) ]

holds_more : (q : State) (ts us rs : List Tok) (S U : Stack) (t : Tok) → Takes S t U → Leads S (t ∷ rs) → Holds S q ts us (t ∷ rs) → Ready U (us ++ t ∷ []) rs (held q (ts ++ t ∷ []))
holds_more q ts us rs S U t k l h =
    let back : Back q (ts ++ t ∷ []) (us ++ t ∷ []) rs = record {
      leads = subst (λ xs. Leads q.stack xs) (sym (append_assoc ts (t ∷ []) rs)) h.back.leads;
      there = h.back.there;
      first = h.back.first;
      last = ap (λ xs. xs ++ t ∷ []) h.back.last ∙ append_assoc h.back.first ts (t ∷ []);
    } in (
      back,
      λ begins has. record {
        has = has;
        back = back;
        after = λ n is. let (had, was) = same_start S U t n k begins has is in end_on n ts (t ∷ []) (h.after n was) ((l.before n had was).0, tt);
      },
    )

kept_token : (s : State) (U : Stack) (t : Tok) (us rs : List Tok) (c : Bool) (m : Mark) → Takes s.stack t U → Leads s.stack (t ∷ rs) → IsKeptMark s.stack us (t ∷ rs) m → Ready U (us ++ t ∷ []) rs (with_token s t c m)
kept_token s U t us rs true sound k l h =
    let back : Back s (t ∷ []) (us ++ t ∷ []) rs = record { leads = l; there = h; first = us; last = refl } in
    (back, λ begins has. record { has = has; back = back; after = λ n is. let (had, was) = same_start s.stack U t n k begins has is in ((l.before n had was).0, tt) })
kept_token s U t us rs false sound k l h = (tt, λ begins has. has)
kept_token s U t us rs true (held q ts) k l h = holds_more q ts us rs s.stack U t k l h
kept_token s U t us rs false (held q ts) k l h = holds_more q ts us rs s.stack U t k l h
kept_token s U t us rs true marked k l h = (tt, λ begins has. tt)
kept_token s U t us rs false marked k l h = (tt, λ begins has. tt)

-- a parser after these tokens and before those
pub record Runs (p : Parser) (us rs : List Tok) : Type 0 where
  pub leads : Leads p.state.stack rs
  pub kept : IsKept p.state.stack us rs p.item

runs_free : (p : Parser) (us rs : List Tok) → Free p rs → Runs p us rs
runs_free p us rs f = record { leads = f.leads; kept = kept_free p.state.stack us rs p.item f.free }

-- one token
runs_step : (G : Table) → Found G → IsItemRow G → (p : Parser) (t : Tok) (us rs : List Tok) → InOrder (us ++ t ∷ rs) → Runs p us (t ∷ rs) → Runs (step G p t).parser (us ++ t ∷ []) rs
unfolding step
runs_step G L I p t us rs order h = by p.item h.kept
  where
    S : Stack
    S = p.state.stack

    r : rules.Stepped
    r = rules.step G S p.state.place t

    later : EndFrom t.start rs
    later = (order_last us (t ∷ rs) order).0

    k : Takes S t r.stack
    k = takes_step G L I S p.state.place t h.leads.begun

    next : Leads r.stack rs
    next = leads_taken S r.stack t rs later k h.leads

    on : (col : ℕ) (m : Mark) → Settled (Some (item col m)) → Runs (go_on (Some (item col m)) t r).parser (us ++ t ∷ []) rs
    on col m free = runs_free (go_on (Some (item col m)) t r).parser (us ++ t ∷ []) rs (free_go_on G L I p.state t rs (Some (item col m)) later h.leads free)

    in_item : (col : ℕ) (f : Option Fault) (m : Mark) → Ready r.stack (us ++ t ∷ []) rs m → Runs (step_sound G col t r f m).parser (us ++ t ∷ []) rs
    in_item col None m ready = record { leads = next; kept = kept_after r.stack t (us ++ t ∷ []) rs col m r.fault ready.1 }
    in_item col (Some f) sound ready = on col sound tt
    in_item col (Some f) marked ready = on col marked tt
    in_item col (Some f) (held q ts) ready =
        let back : Back q ts (us ++ t ∷ []) rs = ready.0 in
        let whole : InOrder ((us ++ t ∷ []) ++ rs) = subst InOrder (sym (append_assoc us (t ∷ []) rs)) order in
        let ours : InOrder (back.first ++ (ts ++ rs)) = subst InOrder (append_assoc back.first ts rs) (subst (λ xs. InOrder (xs ++ rs)) back.last whole) in
        let q' = parser q (Some (item col sound)) in
        runs_free (retake_all G ts q').parser (us ++ t ∷ []) rs (free_all G L I ts q' rs (order_last back.first (ts ++ rs) ours) back.leads back.there)

    by : (o : Option Item) → IsKept S us (t ∷ rs) o → Runs (step_by G p.state o t r).parser (us ++ t ∷ []) rs
    by None kept = runs_free (go_on None t r).parser (us ++ t ∷ []) rs (free_go_on G L I p.state t rs None later h.leads tt)
    by (Some i) kept = cuts (is_cut i.col t r && is_marked i.mark)
      where
        cuts : (b : Bool) → Runs (if b then cut_step G p.state t else step_sound G i.col t r r.fault (with_token p.state t (is_cut i.col t r) i.mark)).parser (us ++ t ∷ []) rs
        cuts true = runs_free (cut_step G p.state t).parser (us ++ t ∷ []) rs (free_cut G L I p.state t rs later h.leads)
        cuts false = in_item i.col r.fault (with_token p.state t (is_cut i.col t r) i.mark) (kept_token p.state r.stack t us rs (is_cut i.col t r) i.mark k h.leads kept)

-- tokens that follow
pub runs_on : (G : Table) → Found G → IsItemRow G → (ts : List Tok) (p : Parser) (us rs : List Tok) → InOrder (us ++ (ts ++ rs)) → Runs p us (ts ++ rs) → Runs (run_on G ts p) (us ++ ts) rs
runs_on G L I [] p us rs order h = subst (λ xs. Runs p xs rs) (sym (append-nil us)) h
runs_on G L I (t ∷ ts) p us rs order h =
    let one = runs_step G L I p t us (ts ++ rs) order h in
    let further = runs_on G L I ts (step G p t).parser (us ++ t ∷ []) rs (subst InOrder (sym (append_assoc us (t ∷ []) (ts ++ rs))) order) one in
    subst (λ xs. Runs (run_on G (t ∷ ts) p) xs rs) (append_assoc us (t ∷ []) ts) further
