-- How far a scan of nested comments has come.
use Rattle.std.proofs.Common.{◌≡◌, ◌+◌, ◌-◌, ◌≤◌, ◌<◌, ℕ, zero, suc, List, drop, length, sym, subst, arith, refl, length-drop}
use Rattle.std.proofs.lemmas.List.{drop-drop}
use Rattle.token_model.specs.Comments.{Closes}
use Rattle.ml_lexer.specs.Pieces.{ClosesAll}
use Rattle.ml_lexer.specs.Scans.{Piece, opens, closes, passes, unclosed, piece_of}
use Rattle.ml_lexer.proofs.Inside.{Step, closes_step, step_closes, closes_some}

step_at : (p : Piece) {bs rest : List ℕ} → piece_of bs ≡ p → Closes bs rest → Step p bs rest
step_at p {bs} {rest} is c = subst (λ (x : Piece). Step x bs rest) is (closes_step c)

closes_at : (p : Piece) (bs rest : List ℕ) → 0 < length bs → piece_of bs ≡ p → Step p bs rest → Closes bs rest
closes_at p bs rest some is step = step_closes bs rest some (subst (λ (x : Piece). Step x bs rest) (sym is) step)

-- what is left closes some comments just where the whole closes one
abbrev pub Same : List ℕ → ℕ → ℕ → ℕ → Type 0
Same w from depth i = ((rest : List ℕ) → ClosesAll depth (drop i w) rest → Closes (drop from w) rest) × ((rest : List ℕ) → Closes (drop from w) rest → ClosesAll depth (drop i w) rest)

pub same_starts : (w : List ℕ) (from : ℕ) → Same w from 1 from
same_starts w from = (λ rest all. subst (λ (x : List ℕ). Closes (drop from w) x) all.2 all.1, λ rest c. (rest, c, refl))

-- one comment more, one less, or as many
deeper : (d : ℕ) (bs rest : List ℕ) → 0 < d → piece_of bs ≡ opens → ClosesAll d bs rest → ClosesAll (d + 1) (drop 2 bs) rest
deeper zero bs rest some is all = absurd (omega arith)
deeper (suc d) bs rest some is all =
    let step = step_at opens is all.1 in
    let depth : suc d + 1 ≡ suc (suc d) = omega arith in
    subst (λ k. ClosesAll k (drop 2 bs) rest) (sym depth) (step.0, step.1, (all.0, step.2, all.2))

undeeper : (d : ℕ) (bs rest : List ℕ) → 0 < d → 0 < length bs → piece_of bs ≡ opens → ClosesAll (d + 1) (drop 2 bs) rest → ClosesAll d bs rest
undeeper zero bs rest some long is all = absurd (omega arith)
undeeper (suc d) bs rest some long is all =
    let depth : suc d + 1 ≡ suc (suc d) = omega arith in
    let two : ClosesAll (suc (suc d)) (drop 2 bs) rest = subst (λ k. ClosesAll k (drop 2 bs) rest) depth all in
    (two.2.0, closes_at opens bs two.2.0 long is (two.0, two.1, two.2.1), two.2.2)

shallower : (d : ℕ) (bs rest : List ℕ) → 0 < d → piece_of bs ≡ closes → ClosesAll d bs rest → ClosesAll (d - 1) (drop 2 bs) rest
shallower zero bs rest some is all = absurd (omega arith)
shallower (suc d) bs rest some is all =
    let depth : suc d - 1 ≡ d = omega arith in
    subst (λ k. ClosesAll k (drop 2 bs) rest) (sym depth) (subst (λ (x : List ℕ). ClosesAll d x rest) (sym (step_at closes is all.1)) all.2)

unshallower : (d : ℕ) (bs rest : List ℕ) → 0 < d → 0 < length bs → piece_of bs ≡ closes → ClosesAll (d - 1) (drop 2 bs) rest → ClosesAll d bs rest
unshallower zero bs rest some long is all = absurd (omega arith)
unshallower (suc d) bs rest some long is all =
    let depth : suc d - 1 ≡ d = omega arith in
    (drop 2 bs, closes_at closes bs (drop 2 bs) long is refl, subst (λ k. ClosesAll k (drop 2 bs) rest) depth all)

passing : (d n : ℕ) (bs rest : List ℕ) → 0 < d → piece_of bs ≡ passes n → ClosesAll d bs rest → ClosesAll d (drop n bs) rest
passing zero n bs rest some is all = absurd (omega arith)
passing (suc d) n bs rest some is all = (all.0, step_at (passes n) is all.1, all.2)

unpassing : (d n : ℕ) (bs rest : List ℕ) → 0 < d → 0 < length bs → piece_of bs ≡ passes n → ClosesAll d (drop n bs) rest → ClosesAll d bs rest
unpassing zero n bs rest some long is all = absurd (omega arith)
unpassing (suc d) n bs rest some long is all = (all.0, closes_at (passes n) bs all.0 long is all.1, all.2)

left : (w : List ℕ) (i : ℕ) → i < length w → 0 < length (drop i w)
left w i there = omega (arith, length-drop i w)

pub same_opens : (w : List ℕ) (from depth i : ℕ) → 0 < depth → i < length w → piece_of (drop i w) ≡ opens → Same w from depth i → Same w from (depth + 1) (i + 2)
same_opens w from depth i some there is same =
    let two : drop 2 (drop i w) ≡ drop (i + 2) w = drop-drop 2 i w in (
      λ rest all. same.0 rest (undeeper depth (drop i w) rest some (left w i there) is (subst (λ (x : List ℕ). ClosesAll (depth + 1) x rest) (sym two) all)),
      λ rest c. subst (λ (x : List ℕ). ClosesAll (depth + 1) x rest) two (deeper depth (drop i w) rest some is (same.1 rest c)),
    )

pub same_closes : (w : List ℕ) (from depth i : ℕ) → 0 < depth → i < length w → piece_of (drop i w) ≡ closes → Same w from depth i → Same w from (depth - 1) (i + 2)
same_closes w from depth i some there is same =
    let two : drop 2 (drop i w) ≡ drop (i + 2) w = drop-drop 2 i w in (
      λ rest all. same.0 rest (unshallower depth (drop i w) rest some (left w i there) is (subst (λ (x : List ℕ). ClosesAll (depth - 1) x rest) (sym two) all)),
      λ rest c. subst (λ (x : List ℕ). ClosesAll (depth - 1) x rest) two (shallower depth (drop i w) rest some is (same.1 rest c)),
    )

pub same_passes : (w : List ℕ) (from depth i n : ℕ) → 0 < depth → i < length w → piece_of (drop i w) ≡ passes n → Same w from depth i → Same w from depth (i + n)
same_passes w from depth i n some there is same =
    let later : drop n (drop i w) ≡ drop (i + n) w = drop-drop n i w in (
      λ rest all. same.0 rest (unpassing depth n (drop i w) rest some (left w i there) is (subst (λ (x : List ℕ). ClosesAll depth x rest) (sym later) all)),
      λ rest c. subst (λ (x : List ℕ). ClosesAll depth x rest) later (passing depth n (drop i w) rest some is (same.1 rest c)),
    )

-- the outermost comment's end
pub same_ends : (w : List ℕ) (from depth i : ℕ) → depth ≡ 1 → i < length w → piece_of (drop i w) ≡ closes → Same w from depth i → Closes (drop from w) (drop (i + 2) w)
same_ends w from depth i one there is same =
    let last : depth - 1 ≡ 0 = omega arith in
    (same_closes w from depth i (omega arith) there is same).0 (drop (i + 2) w) (subst (λ k. ClosesAll k (drop (i + 2) w) (drop (i + 2) w)) (sym last) refl)

-- no end behind what is unclosed, and none at the end of the text
none_behind : (d : ℕ) (bs rest : List ℕ) → 0 < d → piece_of bs ≡ unclosed → ClosesAll d bs rest → ⊥
none_behind zero bs rest some is all = absurd (omega arith)
none_behind (suc d) bs rest some is all = step_at unclosed is all.1

pub same_unclosed : (w : List ℕ) (from depth i : ℕ) → 0 < depth → piece_of (drop i w) ≡ unclosed → Same w from depth i → (rest : List ℕ) → Closes (drop from w) rest → ⊥
same_unclosed w from depth i some is same rest c = none_behind depth (drop i w) rest some is (same.1 rest c)

none_left : (d : ℕ) (bs rest : List ℕ) → 0 < d → length bs ≡ 0 → ClosesAll d bs rest → ⊥
none_left zero bs rest some empty all = absurd (omega arith)
none_left (suc d) bs rest some empty all = absurd (omega (arith, closes_some all.1))

pub same_past : (w : List ℕ) (from depth i : ℕ) → 0 < depth → length w ≤ i → Same w from depth i → (rest : List ℕ) → Closes (drop from w) rest → ⊥
same_past w from depth i some past same rest c = none_left depth (drop i w) rest some (omega (arith, length-drop i w)) (same.1 rest c)
