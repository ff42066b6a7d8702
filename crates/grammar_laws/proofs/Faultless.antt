-- Recover without a fault is the machine of the rules Take and Fit alone.
use Rattle.std.proofs.Common.{◌≡◌, ℕ, zero, suc, ◌+◌, Bool, true, false, List, [], ◌∷◌, Some, None, refl, ap, subst, arith, if◌then◌else◌}
use Rattle.token_model.specs.Kinds.{Tok}
use Rattle.grammar_model.specs.Trees.{Tree, node, no_parts}
use Rattle.grammar_model.specs.Tables.{Table, Edge}
use Rattle.grammar_model.specs.Grammar.{InGrammar}
use Rattle.grammar_model.specs.Machine.{Frame, frame, Stack, node_of, put, Fit, no_fit, deep, fit, fits, on_fit, play, closed_at, close_all, parsed}
use Rattle.recovery_model.specs.Steps.{too_deep, must_of, missing_at, last_edge, on_edge, Reach, unreached, reached, one_more, filled, most_parts, reach_from, stepped, after_reach, after_fit, step, closed_up, some_fault, last_fault, recovered, recover}
use Rattle.grammar_laws.proofs.Laws.{Separate, Found}
use Rattle.grammar_laws.proofs.Exact.{complete}
use Rattle.grammar_laws.proofs.Sound.{sound}

-- a row that can't end has a part that must come
pub record Ends (G : Table) : Type 0 where
  pub next_must : (r at : ℕ) → G.ends r at ≡ false → (e : Edge) × (last_edge (G.next r at) ≡ Some e)

filled_end : (G : Table) (f : Frame) (place : ℕ) → G.ends f.number f.at ≡ true → filled most_parts G f place ≡ (f, 0)
filled_end G f place e = rw e refl

filled_none : (G : Table) → Ends G → (f : Frame) (place : ℕ) → (filled most_parts G f place).1 ≡ 0 → G.ends f.number f.at ≡ true
filled_none G L f place h = by (G.ends f.number f.at) refl
  where
    by : (b : Bool) → G.ends f.number f.at ≡ b → G.ends f.number f.at ≡ true
    by true e = e
    by false e =
        let (d, is) = L.next_must f.number f.at e in
        let m : must_of G f ≡ Some d = rw e is in
        let z : (filled 15 G (missing_at f d.spot place) place).1 + 1 ≡ 0 = subst (λ o. (on_edge o (f, 0) (λ e. one_more (filled 15 G (missing_at f e.spot place) place))).1 ≡ 0) m h in
        absurd (omega arith)

closes_up : (G : Table) (place : ℕ) (S : Stack) (f : Frame) (T : Tree) → closed_at G f S ≡ Some T → closed_up G f S place ≡ (T, 0)
closes_up G place [] f T h = by (G.ends f.number f.at) refl h
  where
    by : (b : Bool) → G.ends f.number f.at ≡ b → (if b then Some (node_of f) else None) ≡ Some T → closed_up G f [] place ≡ (T, 0)
    by false e h = absurd (cc)
    by true e h = let same : node_of f ≡ T = cc in rw (filled_end G f place e) (λ i. (same i, 0))
closes_up G place (g ∷ S) f T h = by (G.ends f.number f.at) refl (closes_up G place S (put f g) T) h
  where
    by : (b : Bool) → G.ends f.number f.at ≡ b → (closed_at G (put f g) S ≡ Some T → closed_up G (put f g) S place ≡ (T, 0)) → (if b then closed_at G (put f g) S else None) ≡ Some T → closed_up G f (g ∷ S) place ≡ (T, 0)
    by false e go h = absurd (cc)
    by true e go h = let q = go h in rw (filled_end G f place e, q) refl

up_closes : (G : Table) → Ends G → (place : ℕ) (S : Stack) (f : Frame) → (closed_up G f S place).1 ≡ 0 → closed_at G f S ≡ Some (closed_up G f S place).0
up_closes G L place [] f h = let e = filled_none G L f place h in rw (filled_end G f place e, e) refl
up_closes G L place (g ∷ S) f h =
    let e = filled_none G L f place (omega arith) in
    let q = up_closes G L place S (put f g) (let z = subst (λ r. r.1 + (closed_up G (put r.0 g) S place).1 ≡ 0) (filled_end G f place e) h in omega arith) in
    rw (filled_end G f place e, e) q

run_gives : (G : Table) (T : Tree) (ts : List Tok) (S : Stack) (place : ℕ) → close_all G (play G ts S) ≡ Some T → recovered G ts S place ≡ (T, [])
run_gives G T [] [] place h = let same : node G.root no_parts ≡ T = cc in λ i. (same i, [])
run_gives G T [] (f ∷ S) place h = rw (closes_up G place S f T h) refl
run_gives G T (t ∷ ts) S place h = by (fits G S t) refl (λ W. run_gives G T ts W t.end) h
  where
    by : (x : Fit) → fits G S t ≡ x → ((W : Stack) → close_all G (play G ts W) ≡ Some T → recovered G ts W t.end ≡ (T, [])) → close_all G (on_fit x (play G ts)) ≡ Some T → recovered G (t ∷ ts) S place ≡ (T, [])
    by no_fit e go h = absurd (cc)
    by deep e go h = absurd (cc)
    by (fit W) e go h = let q = go W h in let s : step G S place t ≡ stepped W t.end None = unfold step in (ap (after_fit G S place t) e) in rw (s, q) refl

pub step_is : (G : Table) (S : Stack) (place : ℕ) (t : Tok) → step G S place t ≡ after_fit G S place t (fits G S t)
unfolding step
step_is G S place t = refl

gives_run : (G : Table) → Ends G → (ts : List Tok) (S : Stack) (place : ℕ) → (recovered G ts S place).1 ≡ [] → close_all G (play G ts S) ≡ Some (recovered G ts S place).0
gives_run G L [] [] place h = refl
gives_run G L [] (f ∷ S) place h = up_closes G L place S f (no_holes (closed_up G f S place).1 h)
  where
    no_holes : (n : ℕ) → last_fault n place ≡ [] → n ≡ 0
    no_holes zero h = refl
    no_holes (suc n) h = absurd (cc)
gives_run G L (t ∷ ts) S place h =
    by (fits G S t) refl (λ W. gives_run G L ts W t.end) (subst (λ r. some_fault r.fault (recovered G ts r.stack r.place).1 ≡ []) (step_is G S place t) h)
  where
    not_reached : (x : Reach) → some_fault (after_reach S place t x).fault (recovered G ts (after_reach S place t x).stack (after_reach S place t x).place).1 ≡ [] → ⊥
    not_reached unreached h = cc
    not_reached (reached no_fit n) h = cc
    not_reached (reached deep n) h = cc
    not_reached (reached (fit U) n) h = cc

    by : (x : Fit) → fits G S t ≡ x → ((W : Stack) → (recovered G ts W t.end).1 ≡ [] → close_all G (play G ts W) ≡ Some (recovered G ts W t.end).0) →
        some_fault (after_fit G S place t (fits G S t)).fault (recovered G ts (after_fit G S place t (fits G S t)).stack (after_fit G S place t (fits G S t)).place).1 ≡ [] →
        close_all G (on_fit (fits G S t) (play G ts)) ≡ Some (recovered G ts (step G S place t).stack (step G S place t).place).0
    by no_fit e go h = absurd (not_reached (reach_from G S t place) (subst (λ x. some_fault (after_fit G S place t x).fault (recovered G ts (after_fit G S place t x).stack (after_fit G S place t x).place).1 ≡ []) e h))
    by deep e go h = absurd (let z : some_fault (Some (too_deep t)) (recovered G ts S place).1 ≡ [] =
        subst (λ x. some_fault (after_fit G S place t x).fault (recovered G ts (after_fit G S place t x).stack (after_fit G S place t x).place).1 ≡ []) e h in cc)
    by (fit W) e go h =
        let s : step G S place t ≡ stepped W t.end None = unfold step in (ap (after_fit G S place t) e) in
        let h' = subst (λ x. some_fault (after_fit G S place t x).fault (recovered G ts (after_fit G S place t x).stack (after_fit G S place t x).place).1 ≡ []) e h in
        rw (e, s) (go W h')

-- where a tree is in the grammar, Recover gives it with no fault
pub exact : (G : Table) → Separate G → (ts : List Tok) (T : Tree) → InGrammar G ts T → recover G ts ≡ (T, [])
unfolding recover parsed
exact G L ts T h = run_gives G T ts (frame G.root 0 [] ∷ []) 0 (complete G L ts T h)

-- where Recover gives no fault, its tree is in the grammar
pub faultless : (G : Table) → Found G → Ends G → (ts : List Tok) → (recover G ts).1 ≡ [] → InGrammar G ts (recover G ts).0
unfolding recover parsed
faultless G F L ts h = sound G F ts (recovered G ts (frame G.root 0 [] ∷ []) 0).0 (gives_run G L ts (frame G.root 0 [] ∷ []) 0 h)
