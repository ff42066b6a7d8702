-- How far tokens reach up to each of them, and which of them are steady by that.
use Rattle.std.proofs.Common.{◌≡◌, ℕ, zero, suc, ◌-◌, ◌<◌, ◌≤◌, max, Bool, true, false, List, [], ◌∷◌, ◌++◌, length, map, take, get_or, nat_lt, refl, sym, ap, ◌∙◌, subst, arith}
use Rattle.std.specs.Prelude.{if◌then◌else◌}
use Rattle.std.proofs.Math.Nat.{le-max_left, le-max_right}
use Rattle.std.proofs.lemmas.Bool.{ltb-true, ltb-false}
use Rattle.std.proofs.lemmas.List.{take-map}
use Rattle.syntax_tree.specs.declared.tree.Token.{Token}
use Rattle.ml_lexer.specs.Reached.{Reached, reach_of, reached_of}
use Rattle.ml_lexer.specs.Steady.{steady}
use Rattle.token_store.specs.Stored.{peaks_of}

-- there are as many as tokens
pub peaks_many : (far : ℕ) (ts : List Reached) → length (peaks_of far ts) ≡ length ts
peaks_many far [] = refl
peaks_many far (t ∷ ts) = ap suc (peaks_many (max far t.reach) ts)

-- those of the first tokens are the first ones
peaks_first : (far k : ℕ) (ts : List Reached) → peaks_of far (take k ts) ≡ take k (peaks_of far ts)
peaks_first far zero ts = refl
peaks_first far (suc k) [] = refl
peaks_first far (suc k) (t ∷ ts) = ap (λ (l : List ℕ). max far t.reach ∷ l) (peaks_first (max far t.reach) k ts)

-- where lists of the code stay, the peaks are those of the tokens
pub peaks_stay : (ts now : List Token) (peaks left : List ℕ) → peaks ≡ peaks_of 0 (map reached_of ts) → now ≡ ts → left ≡ peaks → left ≡ peaks_of 0 (map reached_of now)
peaks_stay ts now peaks left are stay stay_too = stay_too ∙ are ∙ ap (λ (l : List Token). peaks_of 0 (map reached_of l)) (sym stay)

-- where lists of the code are cut, those of the tokens that are left are left
pub peaks_cut : (k : ℕ) (ts now : List Token) (peaks left : List ℕ) → peaks ≡ peaks_of 0 (map reached_of ts) → now ≡ take k ts → left ≡ take k peaks → left ≡ peaks_of 0 (map reached_of now)
peaks_cut k ts now peaks left are cut cut_too =
    cut_too
    ∙ ap (take k) are
    ∙ sym (peaks_first 0 k (map reached_of ts))
    ∙ ap (peaks_of 0) (take-map reached_of k ts)
    ∙ ap (λ (l : List Token). peaks_of 0 (map reached_of l)) (sym cut)

-- the last of some numbers, or another where there are none
last_from : ℕ → List ℕ → ℕ
last_from d [] = d
last_from d (n ∷ ns) = last_from n ns

last_at : (d n : ℕ) (ns : List ℕ) → get_or (n ∷ ns) (length ns) d ≡ last_from n ns
unfolding last_from
last_at d n [] = refl
last_at d n (m ∷ ns) = last_at d m ns

last_placed : (d : ℕ) (ns : List ℕ) → get_or ns (length ns - 1) d ≡ last_from d ns
unfolding last_from
last_placed d [] = refl
last_placed d (n ∷ ns) = ap (λ k. get_or (n ∷ ns) k d) (omega arith) ∙ last_at d n ns

last_more : (far : ℕ) (ts : List Reached) (t : Reached) → peaks_of far (ts ++ t ∷ []) ≡ peaks_of far ts ++ max (last_from far (peaks_of far ts)) t.reach ∷ []
unfolding last_from
last_more far [] t = refl
last_more far (u ∷ ts) t = ap (λ (l : List ℕ). max far u.reach ∷ l) (last_more (max far u.reach) ts t)

-- one token more
pub peaks_more : (far : ℕ) (ts : List Reached) (t : Reached) → peaks_of far (ts ++ t ∷ []) ≡ peaks_of far ts ++ max (get_or (peaks_of far ts) (length (peaks_of far ts) - 1) far) t.reach ∷ []
peaks_more far ts t = last_more far ts t ∙ ap (λ n. peaks_of far ts ++ max n t.reach ∷ []) (sym (last_placed far (peaks_of far ts)))

-- the largest of two numbers is no larger than what both are no larger than
max_most : (a b most : ℕ) → a ≤ most → b ≤ most → max a b ≤ most
max_most a b most a_le b_le = omega (arith, a_le, b_le)

-- they reach as far as those before them
peak_least : (far k d : ℕ) (ts : List Reached) → k < length ts → far ≤ get_or (peaks_of far ts) k d
peak_least far k d [] inside = absurd (omega (arith, inside))
peak_least far zero d (t ∷ ts) inside = le-max_left far t.reach
peak_least far (suc k) d (t ∷ ts) inside = omega (arith, le-max_left far t.reach, peak_least (max far t.reach) k d ts (omega (arith, inside)))

-- a token up to which they reach behind a place isn't steady there
one_fewer : (place far k d : ℕ) (ts : List Reached) → far ≤ place → k < length ts → place < get_or (peaks_of far ts) k d → steady reach_of place (take (suc k) ts) ≡ steady reach_of place (take k ts)
one_fewer place far k d [] near inside behind = absurd (omega (arith, inside))
one_fewer place far zero d (t ∷ ts) near inside behind = go (nat_lt place t.reach) refl
  where
    go : (c : Bool) → nat_lt place t.reach ≡ c → (if c then [] else t ∷ []) ≡ []
    go true is = refl
    go false is = absurd (omega (arith, behind, max_most far t.reach place near (ltb-false place t.reach is)))
one_fewer place far (suc k) d (t ∷ ts) near inside behind =
    go (nat_lt place t.reach) refl (λ close. one_fewer place (max far t.reach) k d ts close (omega (arith, inside)) behind)
  where
    go : (c : Bool) → nat_lt place t.reach ≡ c → (max far t.reach ≤ place → steady reach_of place (take (suc k) ts) ≡ steady reach_of place (take k ts))
        → (if c then [] else t ∷ steady reach_of place (take (suc k) ts)) ≡ (if c then [] else t ∷ steady reach_of place (take k ts))
    go true is rest = refl
    go false is rest = ap (λ (l : List Reached). t ∷ l) (rest (max_most far t.reach place near (ltb-false place t.reach is)))

pub fewer : (place count d : ℕ) (ts : List Reached) → 0 < count → count ≤ length ts → place < get_or (peaks_of 0 ts) (count - 1) d → steady reach_of place (take (count - 1) ts) ≡ steady reach_of place (take count ts)
fewer place count d ts some inside behind =
    let more : suc (count - 1) ≡ count = omega (arith, some) in
    sym (subst (λ n. steady reach_of place (take n ts) ≡ steady reach_of place (take (count - 1) ts)) more (one_fewer place 0 (count - 1) d ts (omega arith) (omega (arith, some, inside)) behind))

-- tokens up to the last of which they reach no further than a place are steady there
all_near : (place far k d : ℕ) (ts : List Reached) → k < length ts → get_or (peaks_of far ts) k d ≤ place → steady reach_of place (take (suc k) ts) ≡ take (suc k) ts
all_near place far k d [] inside near = absurd (omega (arith, inside))
all_near place far zero d (t ∷ ts) inside near = go (nat_lt place t.reach) refl
  where
    go : (c : Bool) → nat_lt place t.reach ≡ c → (if c then [] else t ∷ []) ≡ t ∷ []
    go true is = absurd (omega (arith, near, le-max_right far t.reach, ltb-true place t.reach is))
    go false is = refl
all_near place far (suc k) d (t ∷ ts) inside near =
    go (nat_lt place t.reach) refl (peak_least (max far t.reach) k d ts (omega (arith, inside))) (all_near place (max far t.reach) k d ts (omega (arith, inside)) near)
  where
    go : (c : Bool) → nat_lt place t.reach ≡ c → max far t.reach ≤ get_or (peaks_of (max far t.reach) ts) k d → steady reach_of place (take (suc k) ts) ≡ take (suc k) ts
        → (if c then [] else t ∷ steady reach_of place (take (suc k) ts)) ≡ t ∷ take (suc k) ts
    go true is least rest = absurd (omega (arith, near, least, le-max_right far t.reach, ltb-true place t.reach is))
    go false is least rest = ap (λ (l : List Reached). t ∷ l) rest

pub near : (place count d : ℕ) (ts : List Reached) → 0 < count → count ≤ length ts → get_or (peaks_of 0 ts) (count - 1) d ≤ place → steady reach_of place (take count ts) ≡ take count ts
near place count d ts some inside close =
    let more : suc (count - 1) ≡ count = omega (arith, some) in
    subst (λ n. steady reach_of place (take n ts) ≡ take n ts) more (all_near place 0 (count - 1) d ts (omega (arith, some, inside)) close)
