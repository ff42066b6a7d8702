-- The bytes on both sides of a gap, place by place: a slide of the gap leaves them, and a piece is put at its start.
use Rattle.std.proofs.Common.{◌≡◌, ℕ, ◌+◌, ◌-◌, ◌<◌, ◌≤◌, ◌⊎◌, Bool, true, false, cond, nat_lt, List, ◌++◌, length, take, drop, get_or, sym, refl, ap, ◌∙◌, inl, inr, arith, length-append, length-take-le, length-drop, get_or-take, get_or-drop, ext_get_or, take_at, drop_at, drop-drop}
use lib.ListN.{get_or-append}
use lib.Seq.{get_or-append_right}
use Rattle.gap_bytes.specs.Gapped.{outside}

module _ (front gap : ℕ) (xs : List ℕ) (within : front + gap ≤ length xs) where
  before_long : length (take front xs) ≡ front
  before_long = length-take-le front xs (omega (arith, within))

  -- the byte at an index lies at that place, or past the gap
  found : (k d : ℕ) (c : Bool) → nat_lt k front ≡ c → get_or (outside front gap xs) k d ≡ get_or xs (cond c k (k + gap)) d
  found k d true lt =
      let long = before_long in let low : k < front = grind arith in
      get_or-append (take front xs) (drop (front + gap) xs) d k (omega (arith, long, low)) ∙ get_or-take front xs k d low
  found k d false ge =
      let long = before_long in let high : front ≤ k = grind arith in
      get_or-append_right (take front xs) (drop (front + gap) xs) k d (omega (arith, long, high)) ∙ get_or-drop (front + gap) xs (k - length (take front xs)) d
      ∙ ap (λ j. get_or xs j d) (omega (arith, long, high))

  pub outside_long : length (outside front gap xs) + gap ≡ length xs
  outside_long = let long = before_long in let sum = length-append (take front xs) (drop (front + gap) xs) in let rest = length-drop (front + gap) xs in omega (arith, within)

module _ (from to gap : ℕ) (old new : List ℕ) (was : from + gap ≤ length old) (is : to + gap ≤ length old) (same_long : length new ≡ length old) where
  -- where each index has one byte, the bytes are the same
  slid : ((k : ℕ) (s t : Bool) → nat_lt k to ≡ s → nat_lt k from ≡ t → get_or new (cond s k (k + gap)) 0 ≡ get_or old (cond t k (k + gap)) 0) → outside to gap new ≡ outside from gap old
  slid each =
      let new_within : to + gap ≤ length new = omega (arith, is, same_long) in
      let a = outside_long to gap new new_within in let b = outside_long from gap old was in
      ext_get_or 0 (outside to gap new) (outside from gap old) (omega (arith, a, b, same_long)) (λ k lt.
      found to gap new new_within k 0 (nat_lt k to) refl ∙ each k (nat_lt k to) (nat_lt k from) refl refl ∙ sym (found from gap old was k 0 (nat_lt k from) refl))

  -- the bytes from `to` up to `from` were moved past the gap
  pub slid_left : to ≤ from → ((k d : ℕ) → k < from - to → get_or new ((to + gap) + k) d ≡ get_or old (to + k) d)
      → ((d k : ℕ) → (k < to + gap) ⊎ ((to + gap) + (from - to) ≤ k) → get_or new k d ≡ get_or old k d) → outside to gap new ≡ outside from gap old
  slid_left order moved stay = slid each where
    each : (k : ℕ) (s t : Bool) → nat_lt k to ≡ s → nat_lt k from ≡ t → get_or new (cond s k (k + gap)) 0 ≡ get_or old (cond t k (k + gap)) 0
    each k true true e f = let low : k < to = grind arith in stay 0 k (inl (omega (arith, low)))
    each k true false e f = let low : k < to = grind arith in let high : from ≤ k = grind arith in absurd (omega (arith, low, high, order))
    each k false true e f =
        let low : k < from = grind arith in let high : to ≤ k = grind arith in
        ap (λ j. get_or new j 0) (omega (arith, high)) ∙ moved (k - to) 0 (omega (arith, low, high)) ∙ ap (λ j. get_or old j 0) (omega (arith, high))
    each k false false e f = let high : from ≤ k = grind arith in stay 0 (k + gap) (inr (omega (arith, high, order)))

  -- the bytes from `from` up to `to`, past the gap, were moved before it
  pub slid_right : from ≤ to → ((k d : ℕ) → k < to - from → get_or new (from + k) d ≡ get_or old ((from + gap) + k) d)
      → ((d k : ℕ) → (k < from) ⊎ (from + (to - from) ≤ k) → get_or new k d ≡ get_or old k d) → outside to gap new ≡ outside from gap old
  slid_right order moved stay = slid each where
    each : (k : ℕ) (s t : Bool) → nat_lt k to ≡ s → nat_lt k from ≡ t → get_or new (cond s k (k + gap)) 0 ≡ get_or old (cond t k (k + gap)) 0
    each k true true e f = let low : k < from = grind arith in stay 0 k (inl low)
    each k true false e f =
        let low : k < to = grind arith in let high : from ≤ k = grind arith in
        ap (λ j. get_or new j 0) (omega (arith, high)) ∙ moved (k - from) 0 (omega (arith, low, high)) ∙ ap (λ j. get_or old j 0) (omega (arith, high))
    each k false true e f = let low : k < from = grind arith in let high : to ≤ k = grind arith in absurd (omega (arith, low, high, order))
    each k false false e f = let high : to ≤ k = grind arith in stay 0 (k + gap) (inr (omega (arith, high, order)))

-- a piece is put at the start of the gap, which takes in the `cut` bytes after it
pub spliced : (old mid new piece : List ℕ) (front gap at cut : ℕ) → at + cut + gap ≤ length mid → length piece ≤ cut + gap → outside at gap mid ≡ outside front gap old
    → new ≡ take at mid ++ piece ++ drop (at + length piece) mid
    → outside (at + length piece) (gap + cut - length piece) new ≡ take at (outside front gap old) ++ piece ++ drop (at + cut) (outside front gap old)
spliced old mid new piece front gap at cut within fits same made =
    let n = length piece in let head = take at mid ++ piece in
    let first : length (take at mid) ≡ at = length-take-le at mid (omega (arith, within)) in
    let long : length head ≡ at + n = omega (arith, length-append (take at mid) piece, first) in
    let all : (at + n) + (gap + cut - n) ≡ (at + gap) + cut = omega (arith, fits) in
    let new_front : take (at + n) new ≡ head = ap (take (at + n)) made ∙ take_at head (drop (at + n) mid) (at + n) long in
    let new_rest : drop ((at + n) + (gap + cut - n)) new ≡ drop ((at + gap) + cut) mid =
    sym (drop-drop (gap + cut - n) (at + n) new) ∙ ap (drop (gap + cut - n)) (ap (drop (at + n)) made ∙ drop_at head (drop (at + n) mid) (at + n) long)
    ∙ drop-drop (gap + cut - n) (at + n) mid ∙ ap (λ k. drop k mid) all in
    let old_front : take at (outside at gap mid) ≡ take at mid = take_at (take at mid) (drop (at + gap) mid) at first in
    let old_rest : drop (at + cut) (outside at gap mid) ≡ drop ((at + gap) + cut) mid =
    sym (drop-drop cut at (outside at gap mid)) ∙ ap (drop cut) (drop_at (take at mid) (drop (at + gap) mid) at first) ∙ drop-drop cut (at + gap) mid in
    (λ i. new_front i ++ new_rest i) ∙ (λ i. sym old_front i ++ piece ++ sym old_rest i) ∙ ap (λ (l : List ℕ). take at l ++ piece ++ drop (at + cut) l) same
