-- Laws of undoing.
use Rattle.std.proofs.Common.{◌≡◌, ℕ, zero, suc, ◌+◌, ◌<◌, ◌≤◌, List, [], ◌∷◌, ◌++◌, length, take, drop, length-append, refl, sym, ◌∙◌, ap, arith}
use Rattle.std.proofs.lemmas.List.{drop-append-le, take-append-drop, take-append-le}
use Rattle.undo_trail.specs.Undoing.{all_undone, Recorded, unchanged, changed}

-- undoing two lists of writes is undoing the later one first
pub all_undone-append : {W : Type 0} {C : Type 0} (undone : W → C → C) (t u : List W) (cells : C) → all_undone undone (t ++ u) cells ≡ all_undone undone t (all_undone undone u cells)
all_undone-append undone [] u cells = refl
all_undone-append undone (w ∷ t) u cells = ap (undone w) (all_undone-append undone t u cells)

-- what was recorded is undone: the cells at the mark come back
pub undone_recorded : {W : Type 0} {C : Type 0} (undone : W → C → C) (before : C) (writes : List W) (after : C) → Recorded undone before writes after → all_undone undone writes after ≡ before
undone_recorded undone before _ _ unchanged = refl
undone_recorded undone before _ after (changed {writes = writes} {mid = mid} w earlier e) =
    all_undone-append undone writes (w ∷ []) after ∙ ap (all_undone undone writes) e ∙ undone_recorded undone before writes mid earlier

-- what stands behind a place is what stands there up to a later place, and what stands behind that
pub drop-take : {A : Type 0} (m n : ℕ) (xs : List A) → m ≤ n → drop m xs ≡ drop m (take n xs) ++ drop n xs
drop-take zero n xs h = sym (take-append-drop n xs)
drop-take (suc m) zero xs h = absurd (omega arith)
drop-take (suc m) (suc n) [] h = refl
drop-take (suc m) (suc n) (x ∷ xs) h = drop-take m n xs (omega arith)

-- undoing to a later mark first, and then to the earlier one, is undoing to the earlier one
pub undone_in_steps : {W : Type 0} {C : Type 0} (undone : W → C → C) (m n : ℕ) (writes : List W) (cells : C) → m ≤ n →
    all_undone undone (drop m (take n writes)) (all_undone undone (drop n writes) cells) ≡ all_undone undone (drop m writes) cells
undone_in_steps undone m n writes cells h =
    sym (ap (λ t. all_undone undone t cells) (drop-take m n writes h) ∙ all_undone-append undone (drop m (take n writes)) (drop n writes) cells)

-- one more write that was recorded keeps what undoing to each earlier mark gives
pub undone-push : {W : Type 0} {C : Type 0} (undone : W → C → C) (mark : ℕ) (writes : List W) (w : W) (before after : C) → mark ≤ length writes →
    undone w after ≡ before → all_undone undone (drop mark (writes ++ w ∷ [])) after ≡ all_undone undone (drop mark writes) before
undone-push undone mark writes w before after h e =
    ap (λ t. all_undone undone t after) (drop-append-le mark writes (w ∷ []) h)
    ∙ all_undone-append undone (drop mark writes) (w ∷ []) after
    ∙ ap (all_undone undone (drop mark writes)) e

-- one turn of undoing: the last write goes, and what it overwrote comes back
pub record UndoneTo {W : Type 0} {C : Type 0} (undone : W → C → C) (mark : ℕ) (writes' : List W) (cells' : C) (writes : List W) (cells : C) : Type 0 where
  pub fits : mark ≤ length writes'
  pub kept : take mark writes' ≡ take mark writes
  pub rest : all_undone undone (drop mark writes') cells' ≡ all_undone undone (drop mark writes) cells

pub undo_one : {W : Type 0} {C : Type 0} (undone : W → C → C) (mark : ℕ) (writes' : List W) (cells' : C) (writes : List W) (cells : C) (w : W) →
    mark < length writes → writes ≡ writes' ++ w ∷ [] → cells' ≡ undone w cells → UndoneTo undone mark writes' cells' writes cells
undo_one undone mark writes' cells' writes cells w h e e' =
    let n : length writes ≡ length writes' + 1 = ap length e ∙ length-append writes' (w ∷ []) in
    let le : mark ≤ length writes' = omega arith in
    record {
      fits = le;
      kept = sym (ap (take mark) e ∙ take-append-le mark writes' (w ∷ []) le);
      rest = sym (ap (λ t. all_undone undone (drop mark t) cells) e ∙ undone-push undone mark writes' w (undone w cells) cells le refl ∙ ap (all_undone undone (drop mark writes')) (sym e'));
    }
