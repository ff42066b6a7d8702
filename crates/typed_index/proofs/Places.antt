-- Places that are read, made, set and cut off.
use Rattle.std.proofs.Common.{◌≡◌, ◌≢◌, ◌⊎◌, inl, inr, ℕ, zero, suc, ◌<◌, ◌≤◌, ◌==◌, ◌&&◌, true, false, nat_lt, if◌then◌else◌, List, [], ◌∷◌, ◌++◌, length, take, set, Option, Some, None, get_or, refl, ap, ◌∙◌, arith}
use Rattle.std.proofs.lemmas.Bool.Decides.{eqb_tells, leb_tells}
use Rattle.std.specs.declared.vec.Vec.{Vec}
use Rattle.std.specs.declared.alloc.Global.{Global}
use Rattle.typed_index.specs.Lists.{seen_in, seen_among, at_number, with_note, before_item}

-- what is recorded for a number is the element there, and nothing behind the end
pub in_there : {S : Type 0} (nodes : List (Option S)) (p : ℕ) (s : Option S) → p < length nodes → s ≡ get_or nodes p s → s ≡ seen_in nodes p
in_there [] p s h e = absurd (omega arith)
in_there (x ∷ nodes) zero s h e = e
in_there (x ∷ nodes) (suc p) s h e = in_there nodes p s (omega arith) e

pub in_none : {S : Type 0} (nodes : List (Option S)) (p : ℕ) → length nodes ≤ p → seen_in nodes p ≡ None
in_none [] p h = refl
in_none (x ∷ nodes) zero h = absurd (omega arith)
in_none (x ∷ nodes) (suc p) h = in_none nodes p (omega arith)

pub among_none : {S : Type 0} (items : List (Vec (Option S) Global)) (i p : ℕ) → length items ≤ i → seen_among items i p ≡ None
among_none [] i p h = refl
among_none (x ∷ items) zero p h = absurd (omega arith)
among_none (x ∷ items) (suc i) p h = among_none items i p (omega arith)

-- one empty place more, and one empty list more
pub place_more : {S : Type 0} (nodes : List (Option S)) (p : ℕ) → seen_in (nodes ++ None ∷ []) p ≡ seen_in nodes p
place_more [] zero = refl
place_more [] (suc p) = refl
place_more (x ∷ nodes) zero = refl
place_more (x ∷ nodes) (suc p) = place_more nodes p

pub list_more : {S : Type 0} (items : List (Vec (Option S) Global)) (v : Vec (Option S) Global) (i p : ℕ) → v.items ≡ [] →
    seen_among (items ++ v ∷ []) i p ≡ seen_among items i p
list_more [] v zero p h = rw h refl
list_more [] v (suc i) p h = refl
list_more (x ∷ items) v zero p h = refl
list_more (x ∷ items) v (suc i) p h = list_more items v i p h

-- a place that is set, and the others
set_there : {S : Type 0} (nodes : List (Option S)) (n : ℕ) (s : S) → n < length nodes → seen_in (set nodes n (Some s)) n ≡ Some s
set_there [] n s h = absurd (omega arith)
set_there (x ∷ nodes) zero s h = refl
set_there (x ∷ nodes) (suc n) s h = set_there nodes n s (omega arith)

set_elsewhere : {S : Type 0} (nodes : List (Option S)) (n : ℕ) (s : S) (p : ℕ) → n ≢ p → seen_in (set nodes n (Some s)) p ≡ seen_in nodes p
set_elsewhere [] n s p h = refl
set_elsewhere (x ∷ nodes) zero s zero h = absurd (h refl)
set_elsewhere (x ∷ nodes) zero s (suc p) h = refl
set_elsewhere (x ∷ nodes) (suc n) s zero h = refl
set_elsewhere (x ∷ nodes) (suc n) s (suc p) h = set_elsewhere nodes n s p (λ e. h (ap suc e))

pub place_set : {S : Type 0} (nodes : List (Option S)) (n : ℕ) (s : S) (p : ℕ) → n < length nodes →
    seen_in (set nodes n (Some s)) p ≡ at_number n s (seen_in nodes) p
place_set nodes n s p h = at (eqb_tells n p)
  where
    at : (((n == p) ≡ true) × (n ≡ p)) ⊎ (((n == p) ≡ false) × (n ≢ p)) → seen_in (set nodes n (Some s)) p ≡ (if n == p then Some s else seen_in nodes p)
    at (inl e) = rw (e.0, ← e.1) (set_there nodes n s h)
    at (inr e) = rw e.0 (set_elsewhere nodes n s p e.1)

-- an item's list that is exchanged for another, and the others
exchanged_there : {S : Type 0} (items : List (Vec (Option S) Global)) (n p : ℕ) (v : Vec (Option S) Global) →
    n < length items → seen_among (set items n v) n p ≡ seen_in v.items p
exchanged_there [] n p v h = absurd (omega arith)
exchanged_there (x ∷ items) zero p v h = refl
exchanged_there (x ∷ items) (suc n) p v h = exchanged_there items n p v (omega arith)

exchanged_elsewhere : {S : Type 0} (items : List (Vec (Option S) Global)) (n i p : ℕ) (v : Vec (Option S) Global) →
    n ≢ i → seen_among (set items n v) i p ≡ seen_among items i p
exchanged_elsewhere [] n i p v h = refl
exchanged_elsewhere (x ∷ items) zero zero p v h = absurd (h refl)
exchanged_elsewhere (x ∷ items) zero (suc i) p v h = refl
exchanged_elsewhere (x ∷ items) (suc n) zero p v h = refl
exchanged_elsewhere (x ∷ items) (suc n) (suc i) p v h = exchanged_elsewhere items n i p v (λ e. h (ap suc e))

-- an item's list that is exchanged for one in which one place is set
pub list_noted : {S : Type 0} (items : List (Vec (Option S) Global)) (n pre : ℕ) (s : S) (v : Vec (Option S) Global) →
    n < length items → ((p : ℕ) → seen_in v.items p ≡ at_number pre s (seen_among items n) p) →
    (i p : ℕ) → seen_among (set items n v) i p ≡ with_note n pre s (seen_among items) i p
list_noted items n pre s v h e i p = at (eqb_tells n i)
  where
    at : (((n == i) ≡ true) × (n ≡ i)) ⊎ (((n == i) ≡ false) × (n ≢ i)) →
        seen_among (set items n v) i p ≡ (if (n == i) && (pre == p) then Some s else seen_among items i p)
    at (inl f) = rw (f.0, ← f.1) (exchanged_there items n p v h ∙ e p)
    at (inr f) = rw f.0 (exchanged_elsewhere items n i p v f.1)

-- an item's list that is exchanged for one with the same places
pub list_same : {S : Type 0} (items : List (Vec (Option S) Global)) (n : ℕ) (v : Vec (Option S) Global) →
    ((p : ℕ) → seen_in v.items p ≡ seen_among items n p) → (i p : ℕ) → seen_among (set items n v) i p ≡ seen_among items i p
list_same [] n v e i p = refl
list_same (x ∷ items) zero v e zero p = e p
list_same (x ∷ items) zero v e (suc i) p = refl
list_same (x ∷ items) (suc n) v e zero p = refl
list_same (x ∷ items) (suc n) v e (suc i) p = list_same items n v e i p

-- an item's list, wherever it stands
pub list_at : {S : Type 0} (items : List (Vec (Option S) Global)) (n : ℕ) (v : Vec (Option S) Global) (p : ℕ) →
    n < length items → v ≡ get_or items n v → seen_in v.items p ≡ seen_among items n p
list_at [] n v p h e = absurd (omega arith)
list_at (x ∷ items) zero v p h e = rw e refl
list_at (x ∷ items) (suc n) v p h e = list_at items n v p (omega arith) e

-- the lists before an item stay, and the others are gone
kept_before : {S : Type 0} (n : ℕ) (items : List (Vec (Option S) Global)) (i p : ℕ) → i < n → seen_among (take n items) i p ≡ seen_among items i p
kept_before zero items i p h = absurd (omega arith)
kept_before (suc n) [] i p h = refl
kept_before (suc n) (x ∷ items) zero p h = refl
kept_before (suc n) (x ∷ items) (suc i) p h = kept_before n items i p (omega arith)

gone_behind : {S : Type 0} (n : ℕ) (items : List (Vec (Option S) Global)) (i p : ℕ) → n ≤ i → seen_among (take n items) i p ≡ None
gone_behind zero items i p h = refl
gone_behind (suc n) [] i p h = refl
gone_behind (suc n) (x ∷ items) zero p h = absurd (omega arith)
gone_behind (suc n) (x ∷ items) (suc i) p h = gone_behind n items i p (omega arith)

pub lists_before : {S : Type 0} (n : ℕ) (items : List (Vec (Option S) Global)) (i p : ℕ) →
    seen_among (take n items) i p ≡ before_item n (seen_among items) i p
lists_before n items i p = at (leb_tells (suc i) n)
  where
    at : ((nat_lt i n ≡ true) × (suc i ≤ n)) ⊎ ((nat_lt i n ≡ false) × (n < suc i)) →
        seen_among (take n items) i p ≡ (if nat_lt i n then seen_among items i p else None)
    at (inl e) = rw e.0 (kept_before n items i p (omega arith))
    at (inr e) = rw e.0 (gone_behind n items i p (omega arith))
