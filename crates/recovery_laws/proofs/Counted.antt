-- No token is lost, and the faults count the missing parts, also where tokens are taken again.
use Rattle.std.proofs.Common.{◌≡◌, ℕ, zero, suc, ◌+◌, Bool, true, false, ◌&&◌, List, [], ◌∷◌, ◌++◌, Option, Some, None, refl, sym, ◌∙◌, ap, subst, arith, nat_eq, ◌⊎◌, inl, inr, if◌then◌else◌, append_assoc, append-nil}
use Rattle.token_model.specs.Kinds.{Tok}
use Rattle.grammar_model.specs.Trees.{Tree, yield_of, holes_of}
use Rattle.grammar_model.specs.Tables.{Table}
use Rattle.grammar_model.specs.Machine.{Frame, Stack, put}
use Rattle.recovery_model.specs.Steps as rules
use Rattle.recovery_model.specs.Steps.{Fault, added, skipped, too_deep, cut, filled, most_parts, close_up, some_fault, last_fault, Merged, left_out, added_in}
use Rattle.grammar_laws.proofs.Laws.{Found}
use Rattle.grammar_laws.proofs.Counted.{stack_yield, stack_holes, Moved, moved_on, moved_after, moved_put, moved_filled, Took, took, Whole, close_counts, fault_counts, Lossless}
use Rattle.recovery_model.specs.Items.{State, state, Mark, sound, held, marked, Item, item, Parser, parser, Stepped, stepped, item_row, item_behind, begins_item, has_item, is_cut, more_holes, closed_out, closed_item, end_fault, behind_cut, cut_step}
use Rattle.recovery_model.specs.Recovery.{faulted, item_after, go_on, retake_by, retake, with_faults, retake_all, go_back, with_token, step_sound, is_marked, step_item, step_by, step, ended, close_mark, close_item, close, recovered, start, recover}

-- tokens that are merged behind others
merged_on : (ts us a b c d : List Tok) → Merged ts a b → Merged us c d → Merged (ts ++ us) (a ++ c) (b ++ d)
merged_on [] us a b c d m n = subst (λ a. Merged us (a ++ c) (b ++ d)) (sym m.0) (subst (λ b. Merged us c (b ++ d)) (sym m.1) n)
merged_on (t ∷ ts) us a b c d m n = elim m [
  | inl (u, same, rest) ↦ inl (u ++ c, ap (λ a. a ++ c) same, merged_on ts us u b c d rest n)
  | inr (v, same, rest) ↦ inr (v ++ d, ap (λ b. b ++ d) same, merged_on ts us a v c d rest n)
]

-- tokens of which none is left out
merged_all : (ts : List Tok) → Merged ts ts []
merged_all [] = (refl, refl)
merged_all (t ∷ ts) = inl (ts, refl, merged_all ts)

-- what the faults of two lists leave out
outs_on : (fs gs : List Fault) → left_out (fs ++ gs) ≡ left_out fs ++ left_out gs
outs_on [] gs = refl
outs_on (added p n ∷ fs) gs = outs_on fs gs
outs_on (skipped t ∷ fs) gs = ap (λ ts. t ∷ ts) (outs_on fs gs)
outs_on (too_deep t ∷ fs) gs = ap (λ ts. t ∷ ts) (outs_on fs gs)
outs_on (cut p ∷ fs) gs = outs_on fs gs

-- how many parts they add
adds_on : (fs gs : List Fault) → added_in (fs ++ gs) ≡ added_in fs + added_in gs
adds_on [] gs = omega arith
adds_on (added p n ∷ fs) gs = let h = adds_on fs gs in omega arith
adds_on (skipped t ∷ fs) gs = adds_on fs gs
adds_on (too_deep t ∷ fs) gs = adds_on fs gs
adds_on (cut p ∷ fs) gs = adds_on fs gs

-- from frames to others: these tokens are those taken between them and those that the faults leave out, and the faults count the missing parts
pub record Taken (S U : Stack) (ts : List Tok) (fs : List Fault) : Type 0 where
  pub more : List Tok
  pub yields : stack_yield U ≡ stack_yield S ++ more
  pub merged : Merged ts more (left_out fs)
  pub holes : stack_holes U ≡ stack_holes S + added_in fs

-- one after the other
taken_on : (S U V : Stack) (ts us : List Tok) (fs gs : List Fault) → Taken S U ts fs → Taken U V us gs → Taken S V (ts ++ us) (fs ++ gs)
taken_on S U V ts us fs gs a b = record {
  more = a.more ++ b.more;
  yields = b.yields ∙ ap (λ y. y ++ b.more) a.yields ∙ append_assoc (stack_yield S) a.more b.more;
  merged = subst (λ x. Merged (ts ++ us) (a.more ++ b.more) x) (sym (outs_on fs gs)) (merged_on ts us a.more (left_out fs) b.more (left_out gs) a.merged b.merged);
  holes = let x = a.holes in let y = b.holes in let z = adds_on fs gs in omega arith;
}

-- and then the end
lossless_on : (S U : Stack) (ts us : List Tok) (fs : List Fault) (r : Tree × List Fault) → Taken S U ts fs → Lossless U us r → Lossless S (ts ++ us) (r.0, fs ++ r.1)
lossless_on S U ts us fs r a b = record {
  more = a.more ++ b.more;
  yields = b.yields ∙ ap (λ y. y ++ b.more) a.yields ∙ append_assoc (stack_yield S) a.more b.more;
  merged = subst (λ x. Merged (ts ++ us) (a.more ++ b.more) x) (sym (outs_on fs r.1)) (merged_on ts us a.more (left_out fs) b.more (left_out r.1) a.merged b.merged);
  holes = let x = a.holes in let y = b.holes in let z = adds_on fs r.1 in omega arith;
}

-- nothing is done
taken_none : (S : Stack) → Taken S S [] []
taken_none S = record { more = []; yields = sym (append-nil (stack_yield S)); merged = (refl, refl); holes = omega arith }

-- frames that are moved without a token
moved_taken : (S U : Stack) (n : ℕ) (f : Fault) → left_out (f ∷ []) ≡ [] → added_in (f ∷ []) ≡ n → Moved S U [] n → Taken S U [] (f ∷ [])
moved_taken S U n f out add m = record { more = []; yields = m.yields; merged = (refl, out); holes = let x = m.holes in omega arith }

-- one token by the rules for one token
took_taken : (S : Stack) (t : Tok) (r : rules.Stepped) → Took S t r → Taken S r.stack (t ∷ []) (some_fault r.fault [])
took_taken S t r k = elim (k.token) [
  | inl (m, none) ↦ record { more = t ∷ []; yields = m.yields; merged = inl ([], refl, (refl, none)); holes = m.holes }
  | inr (same, one, no_more) ↦ record {
    more = [];
    yields = ap stack_yield same ∙ sym (append-nil (stack_yield S));
    merged = inr ([], one, (refl, refl));
    holes = let a = ap stack_holes same in omega arith;
  }
]

-- the item's frames are closed
moved_closed : (G : Table) (place : ℕ) (S : Stack) (f : Frame) → Moved (f ∷ S) (closed_out G f S place).0 [] (closed_out G f S place).1
moved_closed G place [] f = record { yields = sym (append-nil (stack_yield (f ∷ []))); holes = omega arith }
moved_closed G place (g ∷ S) f = by (nat_eq f.number item_row) (moved_closed G place S (put F g))
  where
    F : Frame
    F = (filled most_parts G f place).0

    one : Moved (f ∷ g ∷ S) (put F g ∷ S) [] (filled most_parts G f place).1
    one =
        let m = moved_filled G most_parts f place (g ∷ S) in
        let p = moved_put F g S in
        record {
          yields = p.yields ∙ ap (λ y. y ++ []) (m.yields ∙ append-nil (stack_yield (f ∷ g ∷ S)));
          holes = let x = m.holes in let y = p.holes in omega arith;
        }

    by : (b : Bool) → Moved (put F g ∷ S) (closed_out G (put F g) S place).0 [] (closed_out G (put F g) S place).1
        → let c = if b then (put F g ∷ S, (filled most_parts G f place).1) else more_holes (filled most_parts G f place).1 (closed_out G (put F g) S place) in Moved (f ∷ g ∷ S) c.0 [] c.1
    by true go = one
    by false go = moved_on (f ∷ g ∷ S) (put F g ∷ S) (closed_out G (put F g) S place).0 [] (filled most_parts G f place).1 (closed_out G (put F g) S place).1 one go

-- an item that keeps no tokens
abbrev pub IsSettled : Mark → Type 0
IsSettled sound = Unit {0}
IsSettled (held q ts) = ⊥
IsSettled marked = Unit {0}

abbrev pub Settled : Option Item → Type 0
Settled None = Unit {0}
Settled (Some i) = IsSettled i.mark

-- an item with a fault keeps none
faulted_settled : (i : Option Item) → Settled (faulted i)
faulted_settled None = tt
faulted_settled (Some i) = tt

behind_settled : (S : Stack) (t : Tok) (i : Option Item) → Settled i → Settled (item_behind S t i)
behind_settled S t i h = by (begins_item S) (has_item S)
  where
    by : (b c : Bool) → Settled (if b then Some (item t.col sound) else (if c then i else None))
    by true c = tt
    by false true = h
    by false false = tt

after_settled : (S : Stack) (t : Tok) (o : Option Fault) (i : Option Item) → Settled i → Settled (item_after S t o i)
after_settled S t None i h = behind_settled S t i h
after_settled S t (Some (added p n)) i h = behind_settled S t (faulted i) (faulted_settled i)
after_settled S t (Some (skipped u)) i h = faulted_settled i
after_settled S t (Some (too_deep u)) i h = faulted_settled i
after_settled S t (Some (cut p)) i h = faulted_settled i

-- tokens that are taken from these frames, and an item behind them that keeps none
pub record Settles (S : Stack) (ts : List Tok) (r : Stepped) : Type 0 where
  pub taken : Taken S r.parser.state.stack ts r.faults
  pub settled : Settled r.parser.item

go_on_settles : (G : Table) → Found G → (s : State) (i : Option Item) (t : Tok) → Settled i → Settles s.stack (t ∷ []) (go_on i t (rules.step G s.stack s.place t))
go_on_settles G L s i t h =
    let r = rules.step G s.stack s.place t in
    record { taken = took_taken s.stack t r (took G L s.stack s.place t); settled = after_settled r.stack t r.fault i h }

end_none : (n place : ℕ) → (left_out (end_fault place n ∷ []) ≡ []) × (added_in (end_fault place n ∷ []) ≡ n)
end_none zero place = (refl, refl)
end_none (suc n) place = (refl, omega arith)

closed_taken : (G : Table) (S : Stack) (place : ℕ) → Taken S (closed_item G S place).0 [] (end_fault place (closed_item G S place).1 ∷ [])
closed_taken G [] place = record { more = []; yields = refl; merged = (refl, refl); holes = omega arith }
closed_taken G (f ∷ S) place =
    let c = closed_out G f S place in
    let (out, add) = end_none c.1 place in
    moved_taken (f ∷ S) c.0 c.1 (end_fault place c.1) out add (moved_closed G place S f)

cut_settles : (G : Table) → Found G → (s : State) (t : Tok) → Settles s.stack (t ∷ []) (cut_step G s t)
cut_settles G L s t =
    let c = closed_item G s.stack s.place in
    let r = rules.step G c.0 s.place t in
    record {
      taken = taken_on s.stack c.0 r.stack [] (t ∷ []) (end_fault s.place c.1 ∷ []) (some_fault r.fault []) (closed_taken G s.stack s.place) (took_taken c.0 t r (took G L c.0 s.place t));
      settled = behind_settled r.stack t None tt;
    }

retake_settles : (G : Table) → Found G → (p : Parser) (t : Tok) → Settled p.item → Settles p.state.stack (t ∷ []) (retake G p t)
retake_settles G L p t h = by p.item h
  where
    r : rules.Stepped
    r = rules.step G p.state.stack p.state.place t

    by : (o : Option Item) → Settled o → Settles p.state.stack (t ∷ []) (retake_by G p.state o t r)
    by None h = go_on_settles G L p.state None t tt
    by (Some i) h = whether (is_cut i.col t r)
      where
        whether : (b : Bool) → Settles p.state.stack (t ∷ []) (if b then cut_step G p.state t else go_on (Some i) t r)
        whether true = cut_settles G L p.state t
        whether false = go_on_settles G L p.state (Some i) t h

-- tokens that are taken again
pub all_settle : (G : Table) → Found G → (ts : List Tok) (p : Parser) → Settled p.item → Settles p.state.stack ts (retake_all G ts p)
all_settle G L [] p h = record { taken = taken_none p.state.stack; settled = h }
all_settle G L (t ∷ ts) p h =
    let a = retake_settles G L p t h in
    let b = all_settle G L ts (retake G p t).parser a.settled in
    record {
      taken = taken_on p.state.stack (retake G p t).parser.state.stack (retake_all G ts (retake G p t).parser).parser.state.stack (t ∷ []) ts (retake G p t).faults (retake_all G ts (retake G p t).parser).faults a.taken b.taken;
      settled = b.settled;
    }

-- the frames to which a fault may go back
abbrev base_of : State → Mark → State
base_of s sound = s
base_of s (held q ts) = q
base_of s marked = s

abbrev base : State → Option Item → State
base s None = s
base s (Some i) = base_of s i.mark

-- the tokens that are taken again then
abbrev kept_by : Mark → List Tok
kept_by sound = []
kept_by (held q ts) = ts
kept_by marked = []

abbrev kept : Option Item → List Tok
kept None = []
kept (Some i) = kept_by i.mark

-- they are those between those frames and these, without a fault
abbrev Keeps : State → Option Item → Type 0
Keeps s i = Taken (base s i).stack s.stack (kept i) []

settled_base : (s : State) (i : Option Item) → Settled i → (base s i ≡ s) × (kept i ≡ [])
settled_base s None h = (refl, refl)
settled_base s (Some i) h = by i.mark h
  where
    by : (m : Mark) → IsSettled m → (base_of s m ≡ s) × (kept_by m ≡ [])
    by sound h = (refl, refl)
    by (held q ts) h = absurd h
    by marked h = (refl, refl)

-- a step: of the kept tokens and its own, these are taken, and the others kept
record Steps (S : Stack) (us : List Tok) (r : Stepped) : Type 0 where
  taken : List Tok
  all : us ≡ taken ++ kept r.parser.item
  from : Taken S (base r.parser.state r.parser.item).stack taken r.faults
  keeps : Keeps r.parser.state r.parser.item

settled_steps : (S : Stack) (us : List Tok) (r : Stepped) → Settles S us r → Steps S us r
settled_steps S us r h =
    let (same, none) = settled_base r.parser.state r.parser.item h.settled in
    record {
      taken = us;
      all = sym (append-nil us) ∙ ap (λ ts. us ++ ts) (sym none);
      from = subst (λ s. Taken S s.stack us r.faults) (sym same) h.taken;
      keeps = subst (λ s. Taken s.stack r.parser.state.stack (kept r.parser.item) []) (sym same) (subst (λ ts. Taken r.parser.state.stack r.parser.state.stack ts []) (sym none) (taken_none r.parser.state.stack));
    }

-- an item that keeps tokens, behind one more of them without a fault
held_steps : (q : State) (ts : List Tok) (col : ℕ) (t : Tok) (W : Stack) (place : ℕ) → Taken q.stack W ts [] → Steps q.stack ts (stepped (parser (state W place) (item_behind W t (Some (item col (held q ts))))) [])
held_steps q ts col t W place h = by (begins_item W) (has_item W)
  where
    by : (b c : Bool) → Steps q.stack ts (stepped (parser (state W place) (if b then Some (item t.col sound) else (if c then Some (item col (held q ts)) else None))) [])
    by true c = settled_steps q.stack ts _ (record { taken = h; settled = tt })
    by false true = record { taken = []; all = refl; from = taken_none q.stack; keeps = h }
    by false false = settled_steps q.stack ts _ (record { taken = h; settled = tt })

-- a token without a fault is taken
none_taken : (G : Table) → Found G → (s : State) (t : Tok) → (rules.step G s.stack s.place t).fault ≡ None → Taken s.stack (rules.step G s.stack s.place t).stack (t ∷ []) []
none_taken G L s t e = subst (λ o. Taken s.stack (rules.step G s.stack s.place t).stack (t ∷ []) (some_fault o [])) e (took_taken s.stack t (rules.step G s.stack s.place t) (took G L s.stack s.place t))

-- an item that keeps tokens, this one the last of them: a fault goes back
kept_steps : (G : Table) → Found G → (s q : State) (ts : List Tok) (col : ℕ) (t : Tok) (o : Option Fault) → (rules.step G s.stack s.place t).fault ≡ o
    → (o ≡ None → Taken q.stack (rules.step G s.stack s.place t).stack ts []) → Steps q.stack ts (step_sound G col t (rules.step G s.stack s.place t) o (held q ts))
kept_steps G L s q ts col t None e h =
    let r = rules.step G s.stack s.place t in
    subst (λ x. Steps q.stack ts (go_on (Some (item col (held q ts))) t x)) (sym (ap (rules.stepped r.stack r.place) e)) (held_steps q ts col t r.stack r.place (h refl))
kept_steps G L s q ts col t (Some f) e h = settled_steps q.stack ts _ (all_settle G L ts (parser q (Some (item col sound))) tt)

-- one that keeps none
free_steps : (G : Table) → Found G → (s : State) (col : ℕ) (t : Tok) (o : Option Fault) (m : Mark) → IsSettled m → Steps s.stack (t ∷ []) (step_sound G col t (rules.step G s.stack s.place t) o m)
free_steps G L s col t None sound h = settled_steps s.stack (t ∷ []) _ (go_on_settles G L s (Some (item col sound)) t tt)
free_steps G L s col t None marked h = settled_steps s.stack (t ∷ []) _ (go_on_settles G L s (Some (item col marked)) t tt)
free_steps G L s col t None (held q ts) h = absurd h
free_steps G L s col t (Some f) sound h = settled_steps s.stack (t ∷ []) _ (go_on_settles G L s (Some (item col sound)) t tt)
free_steps G L s col t (Some f) marked h = settled_steps s.stack (t ∷ []) _ (go_on_settles G L s (Some (item col marked)) t tt)
free_steps G L s col t (Some f) (held q ts) h = absurd h

-- a token in an open item
item_steps : (G : Table) → Found G → (s : State) (col : ℕ) (t : Tok) (c : Bool) (m : Mark) → Keeps s (Some (item col m))
    → Steps (base_of s m).stack (kept_by m ++ (t ∷ [])) (step_item G s col t (rules.step G s.stack s.place t) c m)
item_steps G L s col t true sound h = kept_steps G L s s (t ∷ []) col t _ refl (none_taken G L s t)
item_steps G L s col t false sound h = free_steps G L s col t _ sound tt
item_steps G L s col t true (held q ts) h =
    kept_steps G L s q (ts ++ (t ∷ [])) col t _ refl (λ e. taken_on q.stack s.stack (rules.step G s.stack s.place t).stack ts (t ∷ []) [] [] h (none_taken G L s t e))
item_steps G L s col t false (held q ts) h =
    kept_steps G L s q (ts ++ (t ∷ [])) col t _ refl (λ e. taken_on q.stack s.stack (rules.step G s.stack s.place t).stack ts (t ∷ []) [] [] h (none_taken G L s t e))
item_steps G L s col t true marked h = settled_steps s.stack (t ∷ []) _ (cut_settles G L s t)
item_steps G L s col t false marked h = free_steps G L s col t _ marked tt

-- one token
step_steps : (G : Table) → Found G → (p : Parser) (t : Tok) → Keeps p.state p.item → Steps (base p.state p.item).stack (kept p.item ++ (t ∷ [])) (step G p t)
unfolding step
step_steps G L p t h = by p.item h
  where
    by : (o : Option Item) → Keeps p.state o → Steps (base p.state o).stack (kept o ++ (t ∷ [])) (step_by G p.state o t (rules.step G p.state.stack p.state.place t))
    by None h = settled_steps p.state.stack (t ∷ []) _ (go_on_settles G L p.state None t tt)
    by (Some i) h = item_steps G L p.state i.col t _ i.mark h

-- the end behind tokens that were taken
ended_lossless : (G : Table) (S : Stack) (s : State) (ts : List Tok) (fs : List Fault) → Taken S s.stack ts fs → Lossless S ts (ended G s fs)
ended_lossless G S s ts fs h =
    let r = close_up G s.stack s.place in
    let w = close_counts G s.stack s.place in
    let (a, b) = fault_counts r.1 s.place in
    let end : Lossless s.stack [] (r.0, last_fault r.1 s.place)
    = record { more = []; yields = w.yields ∙ sym (append-nil (stack_yield s.stack)); merged = (refl, a); holes = let h = w.holes in omega arith } in
    subst (λ ts. Lossless S ts (ended G s fs)) (append-nil ts) (lossless_on S s.stack ts [] fs (r.0, last_fault r.1 s.place) h end)

-- the end
close_lossless : (G : Table) → Found G → (p : Parser) → Keeps p.state p.item → Lossless (base p.state p.item).stack (kept p.item) (close G p)
unfolding close
close_lossless G L p h = by (close_up G p.state.stack p.state.place).1 p.item h
  where
    in_item : (col : ℕ) (m : Mark) → Keeps p.state (Some (item col m)) → Lossless (base_of p.state m).stack (kept_by m) (close_mark G p.state col m)
    in_item col sound h = ended_lossless G p.state.stack p.state [] [] h
    in_item col marked h = ended_lossless G p.state.stack p.state [] [] h
    in_item col (held q ts) h =
        let r = go_back G col q ts in
        ended_lossless G q.stack r.parser.state ts r.faults (all_settle G L ts (parser q (Some (item col sound))) tt).taken

    by : (n : ℕ) (o : Option Item) → Keeps p.state o → Lossless (base p.state o).stack (kept o) (close_item G p.state n o)
    by zero o h = ended_lossless G (base p.state o).stack p.state (kept o) [] h
    by (suc n) None h = ended_lossless G p.state.stack p.state [] [] h
    by (suc n) (Some i) h = in_item i.col i.mark h

run_lossless : (G : Table) → Found G → (ts : List Tok) (p : Parser) → Keeps p.state p.item → Lossless (base p.state p.item).stack (kept p.item ++ ts) (recovered G ts p)
run_lossless G L [] p h = subst (λ ts. Lossless (base p.state p.item).stack ts (close G p)) (sym (append-nil (kept p.item))) (close_lossless G L p h)
run_lossless G L (t ∷ ts) p h =
    let r = step G p t in
    let k = step_steps G L p t h in
    let q = recovered G ts r.parser in
    let same : kept p.item ++ (t ∷ ts) ≡ k.taken ++ (kept r.parser.item ++ ts)
    = sym (append_assoc (kept p.item) (t ∷ []) ts) ∙ ap (λ us. us ++ ts) k.all ∙ append_assoc k.taken (kept r.parser.item) ts in
    subst (λ us. Lossless (base p.state p.item).stack us (q.0, r.faults ++ q.1)) (sym same)
    (lossless_on (base p.state p.item).stack (base r.parser.state r.parser.item).stack k.taken (kept r.parser.item ++ ts) r.faults q k.from (run_lossless G L ts r.parser k.keeps))

-- the text's tokens are those of the tree and those left out, and the faults count the missing parts
pub lossless : (G : Table) → Found G → (ts : List Tok) → Merged ts (yield_of (recover G ts).0) (left_out (recover G ts).1) × (holes_of (recover G ts).0 ≡ added_in (recover G ts).1)
unfolding recover
lossless G L ts =
    let l = run_lossless G L ts (start G) (taken_none (start G).state.stack) in
    (subst (λ y. Merged ts y (left_out (recovered G ts (start G)).1)) (sym l.yields) l.merged, let h = l.holes in omega arith)
