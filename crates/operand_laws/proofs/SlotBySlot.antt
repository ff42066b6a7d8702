-- All operands of a row are those of its slots, one slot after the other.
use Rattle.std.proofs.Common.{◌≡◌, ◌∙◌, ◌==◌, ◌+◌, ◌≤◌, ◌<◌, ◌++◌, ℕ, Bool, true, false, ◌&&◌, ◌||◌, List, [], ◌∷◌, refl, sym, ap, subst, arith, if◌then◌else◌}
use Rattle.std.specs.Prelude.{nat_eq, nat_le}
use Rattle.std.specs.List.{list_any, flat_map}
use Rattle.std.specs.Option.{option_to_list}
use Rattle.std.proofs.lemmas.Bool.{leb-true, le-leb, eqb-true, and_parts}
use Rattle.tree_model.specs.Rows.{Row, program_row}
use Rattle.tree_model.specs.Slots.{is_operand, operand_slots}
use Rattle.tree_model.specs.Trees.{Tree, Forest, Part, node, no_parts, part, taken, inner, missing}
use Rattle.tree_model.specs.Extents.{told_size}
use Rattle.row_parts.specs.Numbered.{Numbered, behind, with_slot, node_with, missing_operand, operand_at, operands_from, operands_with_slots, operands_in, all_operands, in_slot, in_slots, first_of, first_in, filled_in}
use Rattle.operand_laws.specs.Formed.{row_of, is_needed, may_repeat, next_slot, is_in_order, IsInPlace, AreShaped, IsFormed}
use Rattle.operand_laws.proofs.There.{filled_first}

-- operands with their slots come in order, from a lowest slot on, each in a slot of the row for operands
abbrev rises : Row → ℕ → List (ℕ × Numbered) → Bool
rises r low [] = true
rises r low (o ∷ os) = nat_le low o.0 && (is_operand r o.0 && rises r (next_slot r o.0) os)

-- numbers that rise, from a lowest one on
abbrev ascends : ℕ → List ℕ → Bool
ascends low [] = true
ascends low (s ∷ ss) = nat_le low s && ascends (s + 1) ss

-- the slots of each row are listed in order
slots_ascend : (r : Row) → ascends 0 (operand_slots r) ≡ true
slots_ascend program_row = refl
slots_ascend _ = refl

-- the operands of parts in order are in order
part_rises : (n : ℕ) (r : Row) (s low : ℕ) (p : Part) (ps : Forest) (os : List (ℕ × Numbered)) → IsInPlace r s p → is_in_order r low (part s p ps) ≡ true →
    ((m : ℕ) → is_in_order r m ps ≡ true → rises r m os ≡ true) → rises r low (with_slot s (operand_at n r s p) os) ≡ true
part_rises n r s low p ps os place h rest = by (is_operand r s) refl p place h
  where
    some : (o : Numbered) → is_operand r s ≡ true → nat_le low s ≡ true → rises r (next_slot r s) os ≡ true → rises r low ((s, o) ∷ os) ≡ true
    some o takes low_enough more = rw (low_enough, takes, more) refl

    by : (b : Bool) → is_operand r s ≡ b → (p : Part) → IsInPlace r s p → (if b then nat_le low s && is_in_order r (next_slot r s) ps else is_in_order r low ps) ≡ true → rises r low (with_slot s (operand_at n r s p) os) ≡ true
    by true e (taken t) place h = absurd (cc)
    by true e (inner t) place h = let both = and_parts (nat_le low s) (is_in_order r (next_slot r s) ps) h in some (node_with n t) e both.0 (rest (next_slot r s) both.1)
    by true e (missing at) place h = let both = and_parts (nat_le low s) (is_in_order r (next_slot r s) ps) h in rw (e) (some (missing_operand n at) e both.0 (rest (next_slot r s) both.1))
    by false e (taken t) place h = rest low h
    by false e (inner t) place h = absurd (cc)
    by false e (missing at) place h = rw (e) (rest low h)

-- the operands of parts in order, where the first part has this number
from_rises : (n : ℕ) (r : Row) (low : ℕ) (ps : Forest) → AreShaped r ps → is_in_order r low ps ≡ true → rises r low (operands_from n r ps) ≡ true
unfolding operands_from
from_rises n r low no_parts shaped h = refl
from_rises n r low (part s p ps) shaped h =
    part_rises n r s low p ps (operands_from (behind n (told_size r s p)) r ps) shaped.0 h (λ m more. from_rises (behind n (told_size r s p)) r m ps shaped.2 more)

-- the operands of a node are in order
node_rises : (n : ℕ) (t : Tree) → IsFormed n t → rises (row_of t) 0 (operands_with_slots n t) ≡ true
node_rises n (node r x ps) formed = from_rises (behind n 1) r 0 ps formed.shaped.2 formed.shaped.1

-- the slot after one isn't lower
next_higher : (r : Row) (s : ℕ) → s ≤ next_slot r s
next_higher r s = by (may_repeat r s)
  where
    by : (b : Bool) → s ≤ (if b then s else s + 1)
    by true = omega arith
    by false = omega arith

-- what stays in order is so from a lower slot on
rises_lower : (r : Row) (low m : ℕ) (os : List (ℕ × Numbered)) → low ≤ m → rises r m os ≡ true → rises r low os ≡ true
rises_lower r low m [] le h = refl
rises_lower r low m (o ∷ os) le h =
    let both = and_parts (nat_le m o.0) (is_operand r o.0 && rises r (next_slot r o.0) os) h in
    let higher : m ≤ o.0 = leb-true m o.0 both.0 in
    rw (le-leb low o.0 (omega arith)) both.1

-- a slot below all of them has none
none_below : (r : Row) (s low : ℕ) (os : List (ℕ × Numbered)) → s < low → rises r low os ≡ true → in_slot s os ≡ []
none_below r s low [] lt h = refl
none_below r s low (o ∷ os) lt h =
    let both = and_parts (nat_le low o.0) (is_operand r o.0 && rises r (next_slot r o.0) os) h in
    let more = and_parts (is_operand r o.0) (rises r (next_slot r o.0) os) both.1 in
    let higher : low ≤ o.0 = leb-true low o.0 both.0 in
    let next : o.0 ≤ next_slot r o.0 = next_higher r o.0 in
    by (o.0 == s) refl higher (none_below r s (next_slot r o.0) os (omega arith) more.1)
  where
    by : (b : Bool) → (o.0 == s) ≡ b → low ≤ o.0 → in_slot s os ≡ [] → (if b then o.1 ∷ in_slot s os else in_slot s os) ≡ []
    by true e higher none = let same : o.0 ≡ s = eqb-true o.0 s e in absurd (omega arith)
    by false e higher none = none

-- a slot that can't repeat has at most one operand: the first one
one_at_most : (r : Row) (s low : ℕ) (os : List (ℕ × Numbered)) → may_repeat r s ≡ false → rises r low os ≡ true → in_slot s os ≡ option_to_list (first_of (in_slot s os))
one_at_most r s low [] once h = refl
one_at_most r s low (o ∷ os) once h =
    let both = and_parts (nat_le low o.0) (is_operand r o.0 && rises r (next_slot r o.0) os) h in
    let more = and_parts (is_operand r o.0) (rises r (next_slot r o.0) os) both.1 in
    by (o.0 == s) refl more.1 (one_at_most r s (next_slot r o.0) os once more.1)
  where
    next : o.0 ≡ s → next_slot r o.0 ≡ s + 1
    next same = rw (same, once) refl

    by : (b : Bool) → (o.0 == s) ≡ b → rises r (next_slot r o.0) os ≡ true → in_slot s os ≡ option_to_list (first_of (in_slot s os)) →
        (if b then o.1 ∷ in_slot s os else in_slot s os) ≡ option_to_list (first_of (if b then o.1 ∷ in_slot s os else in_slot s os))
    by true e more rest = let same : o.0 ≡ s = eqb-true o.0 s e in rw (none_below r s (s + 1) os (omega arith) (subst (λ m. rises r m os ≡ true) (next same) more)) refl
    by false e more rest = rest

-- no operands in no slots
flat_none : (ss : List ℕ) → flat_map (λ (s : ℕ). in_slot {A = Numbered} s []) ss ≡ []
flat_none [] = refl
flat_none (s ∷ ss) = flat_none ss

-- an operand below all these slots is in none of them
flat_skips : (low : ℕ) (ss : List ℕ) (o : ℕ × Numbered) (os : List (ℕ × Numbered)) → o.0 < low → ascends low ss ≡ true → flat_map (λ s. in_slot s (o ∷ os)) ss ≡ flat_map (λ s. in_slot s os) ss
flat_skips low [] o os lt h = refl
flat_skips low (s ∷ ss) o os lt h =
    let both = and_parts (nat_le low s) (ascends (s + 1) ss) h in
    let higher : low ≤ s = leb-true low s both.0 in
    by (o.0 == s) refl higher (flat_skips (s + 1) ss o os (omega arith) both.1)
  where
    by : (b : Bool) → (o.0 == s) ≡ b → low ≤ s → flat_map (λ s. in_slot s (o ∷ os)) ss ≡ flat_map (λ s. in_slot s os) ss →
        (if b then o.1 ∷ in_slot s os else in_slot s os) ++ flat_map (λ s. in_slot s (o ∷ os)) ss ≡ in_slot s os ++ flat_map (λ s. in_slot s os) ss
    by true e higher rest = let same : o.0 ≡ s = eqb-true o.0 s e in absurd (omega arith)
    by false e higher rest = ap (λ x. in_slot s os ++ x) rest

-- each operand is in one of these slots
abbrev are_among : List ℕ → List (ℕ × Numbered) → Bool
are_among ss [] = true
are_among ss (o ∷ os) = list_any (nat_eq o.0) ss && are_among ss os

-- operands in order are in the slots of their row
rises_among : (r : Row) (low : ℕ) (os : List (ℕ × Numbered)) → rises r low os ≡ true → are_among (operand_slots r) os ≡ true
unfolding is_operand
rises_among r low [] h = refl
rises_among r low (o ∷ os) h =
    let both = and_parts (nat_le low o.0) (is_operand r o.0 && rises r (next_slot r o.0) os) h in
    let more = and_parts (is_operand r o.0) (rises r (next_slot r o.0) os) both.1 in
    let here : list_any (nat_eq o.0) (operand_slots r) ≡ true = more.0 in
    rw (here, rises_among r (next_slot r o.0) os more.1) refl

-- one of numbers that rise isn't lower than the lowest
among_above : (low : ℕ) (ss : List ℕ) (q : ℕ) → ascends low ss ≡ true → list_any (nat_eq q) ss ≡ true → low ≤ q
among_above low [] q h in_them = absurd (cc)
among_above low (s ∷ ss) q h in_them =
    let both = and_parts (nat_le low s) (ascends (s + 1) ss) h in
    by (nat_eq q s) refl (leb-true low s both.0) in_them (among_above (s + 1) ss q both.1)
  where
    by : (b : Bool) → nat_eq q s ≡ b → low ≤ s → (b || list_any (nat_eq q) ss) ≡ true → (list_any (nat_eq q) ss ≡ true → s + 1 ≤ q) → low ≤ q
    by true e le in_them later = let same : q ≡ s = eqb-true q s e in omega arith
    by false e le in_them later = let more : s + 1 ≤ q = later in_them in omega arith

-- a number that isn't the first of some is among the others
among_others : (q s : ℕ) (ss : List ℕ) → nat_eq q s ≡ false → list_any (nat_eq q) (s ∷ ss) ≡ true → list_any (nat_eq q) ss ≡ true
among_others q s ss e h = by (nat_eq q s) e h
  where
    by : (b : Bool) → b ≡ false → (b || list_any (nat_eq q) ss) ≡ true → list_any (nat_eq q) ss ≡ true
    by true e h = absurd (cc)
    by false e h = h

-- a number above another isn't it
above_apart : (q s : ℕ) → s < q → nat_eq q s ≡ false
above_apart q s lt = by (nat_eq q s) refl
  where
    by : (b : Bool) → nat_eq q s ≡ b → b ≡ false
    by true e = let same : q ≡ s = eqb-true q s e in absurd (omega arith)
    by false e = refl

-- operands above the first of some slots are in the others
all_among_others : (r : Row) (s low : ℕ) (ss : List ℕ) (os : List (ℕ × Numbered)) → s < low → rises r low os ≡ true → are_among (s ∷ ss) os ≡ true → are_among ss os ≡ true
all_among_others r s low ss [] lt h in_them = refl
all_among_others r s low ss (o ∷ os) lt h in_them =
    let both = and_parts (nat_le low o.0) (is_operand r o.0 && rises r (next_slot r o.0) os) h in
    let more = and_parts (is_operand r o.0) (rises r (next_slot r o.0) os) both.1 in
    let higher : low ≤ o.0 = leb-true low o.0 both.0 in
    let next : o.0 ≤ next_slot r o.0 = next_higher r o.0 in
    let here = and_parts (list_any (nat_eq o.0) (s ∷ ss)) (are_among (s ∷ ss) os) in_them in
    rw (among_others o.0 s ss (above_apart o.0 s (omega arith)) here.0, all_among_others r s (next_slot r o.0) ss os (omega arith) more.1 here.1) refl

-- where the operands of later slots come slot by slot, those of one slot more do
first_slot : (r : Row) (s low : ℕ) (ss : List ℕ) (os : List (ℕ × Numbered)) → ascends (s + 1) ss ≡ true → rises r low os ≡ true → are_among (s ∷ ss) os ≡ true →
    ((m : ℕ) (qs : List (ℕ × Numbered)) → rises r m qs ≡ true → are_among ss qs ≡ true → in_slots qs ≡ flat_map (λ s. in_slot s qs) ss) → in_slots os ≡ in_slot s os ++ flat_map (λ s. in_slot s os) ss
first_slot r s low ss [] asc h in_them later = sym (flat_none ss)
first_slot r s low ss (o ∷ os) asc h in_them later =
    let both = and_parts (nat_le low o.0) (is_operand r o.0 && rises r (next_slot r o.0) os) h in
    let more = and_parts (is_operand r o.0) (rises r (next_slot r o.0) os) both.1 in
    let here = and_parts (list_any (nat_eq o.0) (s ∷ ss)) (are_among (s ∷ ss) os) in_them in
    by (o.0 == s) refl (first_slot r s (next_slot r o.0) ss os asc more.1 here.1 later)
    (λ e. among_others o.0 s ss e here.0) (λ lt. let next : o.0 ≤ next_slot r o.0 = next_higher r o.0 in none_below r s (next_slot r o.0) os (omega arith) more.1)
    (λ lt. let next : o.0 ≤ next_slot r o.0 = next_higher r o.0 in all_among_others r s (next_slot r o.0) ss os (omega arith) more.1 here.1)
  where
    whole : list_any (nat_eq o.0) ss ≡ true → are_among ss os ≡ true → are_among ss (o ∷ os) ≡ true
    whole one all = rw (one, all) refl

    by : (b : Bool) → (o.0 == s) ≡ b → in_slots os ≡ in_slot s os ++ flat_map (λ s. in_slot s os) ss → ((o.0 == s) ≡ false → list_any (nat_eq o.0) ss ≡ true) → (s < o.0 → in_slot s os ≡ []) → (s < o.0 → are_among ss os ≡ true) →
        in_slots (o ∷ os) ≡ (if b then o.1 ∷ in_slot s os else in_slot s os) ++ flat_map (λ s. in_slot s (o ∷ os)) ss
    by true e rest other none among =
        let same : o.0 ≡ s = eqb-true o.0 s e in
        ap (λ x. o.1 ∷ x) rest ∙ ap (λ y. o.1 ∷ (in_slot s os ++ y)) (sym (flat_skips (s + 1) ss o os (omega arith) asc))
    by false e rest other none among =
        let higher : s + 1 ≤ o.0 = among_above (s + 1) ss o.0 asc (other e) in
        later low (o ∷ os) h (whole (other e) (among (omega arith))) ∙ ap (λ x. x ++ flat_map (λ s. in_slot s (o ∷ os)) ss) (sym (none (omega arith)))

-- operands in order are those of the slots, one slot after the other
slot_by_slot : (r : Row) (low from : ℕ) (ss : List ℕ) (os : List (ℕ × Numbered)) → ascends from ss ≡ true → rises r low os ≡ true → are_among ss os ≡ true → in_slots os ≡ flat_map (λ s. in_slot s os) ss
slot_by_slot r low from [] [] asc h in_them = refl
slot_by_slot r low from [] (o ∷ os) asc h in_them = absurd (cc)
slot_by_slot r low from (s ∷ ss) os asc h in_them =
    let both = and_parts (nat_le from s) (ascends (s + 1) ss) asc in
    first_slot r s low ss os both.1 h in_them (λ m qs more all. slot_by_slot r m (s + 1) ss qs both.1 more all)

-- all operands of a node are those of its slots, in the order of the slots
pub all_in_order : (n : ℕ) (t : Tree) → IsFormed n t → all_operands n t ≡ flat_map (operands_in n t) (operand_slots (row_of t))
all_in_order n t formed =
    slot_by_slot (row_of t) 0 0 (operand_slots (row_of t)) (operands_with_slots n t) (slots_ascend (row_of t)) (node_rises n t formed) (rises_among (row_of t) 0 (operands_with_slots n t) (node_rises n t formed))

-- a slot that can't have several operands has the first one alone, or none
pub at_most_one : (n : ℕ) (t : Tree) (s : ℕ) → IsFormed n t → may_repeat (row_of t) s ≡ false → operands_in n t s ≡ option_to_list (first_in n t s)
at_most_one n t s formed once = one_at_most (row_of t) s 0 (operands_with_slots n t) once (node_rises n t formed)

-- and where the row needs it, the one that fills it
pub exactly_one : (n : ℕ) (t : Tree) (s : ℕ) → IsFormed n t → is_operand (row_of t) s ≡ true → is_needed (row_of t) s ≡ true → may_repeat (row_of t) s ≡ false → operands_in n t s ≡ filled_in n t s ∷ []
exactly_one n t s formed takes needs once = at_most_one n t s formed once ∙ ap option_to_list (filled_first n t s formed takes needs)
