-- The operands of a node that is well formed and made of carried rows are such again.
use Rattle.std.proofs.Common.{◌≡◌, ◌∙◌, ◌==◌, ℕ, Bool, true, false, List, [], ◌∷◌, map, zero, suc, Option, Some, None, refl, ap, subst, if◌then◌else◌}
use Rattle.std.specs.Prelude.{All, slice_get}
use Rattle.std.specs.Option.{IfSome}
use Rattle.std.proofs.lemmas.List.Elements.{All-nil, All-cons, All-head, All-tail}
use Rattle.std.proofs.lemmas.Bool.{eqb-true}
use Rattle.tree_model.specs.Rows.{Row, ebegin_row, elist_row, field_row, eassert_row, ewhile_row, econs_row, etuple_row, eif_row, eseq_row}
use Rattle.tree_model.specs.Slots.{is_operand}
use Rattle.tree_model.specs.Trees.{Place, Extent, Tree, Forest, Part, node, no_parts, part, taken, inner, missing}
use Rattle.tree_model.specs.Extents.{told_size}
use Rattle.row_parts.specs.Numbered.{Numbered, numbered, behind, with_slot, node_with, missing_operand, missing_at_end, operand_at, operands_from, operands_with_slots, operands_in, all_operands, in_slot, in_slots, first_of, first_in, filled_in}
use Rattle.operand_laws.specs.Formed.{row_of}
use Rattle.operand_laws.proofs.Going.{operands_formed, all_operands_formed, filled_formed}
use Rattle.typing_rows.specs.Asked.{IsOrderedRow}
use Rattle.typing_rows.specs.CarriedRows.{Sort, an_expression, a_pattern, a_field_pattern, a_field, a_case, a_binding, sort_in, IsCarriedRow, IsTreeOfSort, AreOfCarriedRows, IsOfSort, IsPlaced, IsCarried, IsCarriedCase, IsCarriedBinding}

-- an operand with its slot is of the slot's sort, and made of carried rows
abbrev IsSlotCarried : Row → ℕ × Numbered → Type 0
IsSlotCarried r o = IsOfSort (sort_in r o.0) o.1.part

-- an operand is of a sort, and made of carried rows
abbrev IsPartOf : Sort → Numbered → Type 0
IsPartOf k o = IsOfSort k o.part

-- the parts of a node are
abbrev pub HasCarriedParts : Tree → Type 0
HasCarriedParts (node r x ps) = AreOfCarriedRows r ps

-- the parts of an expression are
pub expression_parts : (t : Tree) → IsTreeOfSort an_expression t → HasCarriedParts t
expression_parts (node r x ps) h = h.1

-- those of a pattern
pub pattern_parts : (t : Tree) → IsTreeOfSort a_pattern t → HasCarriedParts t
pattern_parts (node r x ps) h = h.1

-- those of a field of a record pattern
pub field_parts : (t : Tree) → IsTreeOfSort a_field_pattern t → HasCarriedParts t
field_parts (node r x ps) h = h.1

-- those of a field of a record expression
pub value_parts : (t : Tree) → IsTreeOfSort a_field t → HasCarriedParts t
value_parts (node r x ps) h = h.1

-- those of a case
pub case_parts : (t : Tree) → IsTreeOfSort a_case t → HasCarriedParts t
case_parts (node r x ps) h = h.1

-- and those of a binding
pub binding_parts : (t : Tree) → IsTreeOfSort a_binding t → HasCarriedParts t
binding_parts (node r x ps) h = h.1

part_carried : (n : ℕ) (r : Row) (s : ℕ) (p : Part) (os : List (ℕ × Numbered)) → IsOfSort (sort_in r s) p → All (IsSlotCarried r) os → All (IsSlotCarried r) (with_slot s (operand_at n r s p) os)
part_carried n r s (taken t) os h all = all
part_carried n r s (inner t) os h all = All-cons (IsSlotCarried r) (s, node_with n t) os h all
part_carried n r s (missing at) os h all = by (is_operand r s)
  where
    by : (b : Bool) → All (IsSlotCarried r) (with_slot s (if b then Some (missing_operand n at) else None) os)
    by true = All-cons (IsSlotCarried r) (s, missing_operand n at) os tt all
    by false = all

from_carried : (n : ℕ) (r : Row) (ps : Forest) → AreOfCarriedRows r ps → All (IsSlotCarried r) (operands_from n r ps)
unfolding operands_from
from_carried n r no_parts h = All-nil (IsSlotCarried r)
from_carried n r (part s p ps) h = part_carried n r s p (operands_from (behind n (told_size r s p)) r ps) h.0 (from_carried (behind n (told_size r s p)) r ps h.1)

slots_carried : (n : ℕ) (t : Tree) → HasCarriedParts t → All (IsSlotCarried (row_of t)) (operands_with_slots n t)
slots_carried n (node r x ps) h = from_carried (behind n 1) r ps h

in_slot_carried : (r : Row) (s : ℕ) (k : Sort) (os : List (ℕ × Numbered)) → sort_in r s ≡ k → All (IsSlotCarried r) os → All (IsPartOf k) (in_slot s os)
in_slot_carried r s k [] sort all = All-nil (IsPartOf k)
in_slot_carried r s k (o ∷ os) sort all = by (o.0 == s) refl (in_slot_carried r s k os sort (All-tail (IsSlotCarried r) o os all))
  where
    by : (b : Bool) → (o.0 == s) ≡ b → All (IsPartOf k) (in_slot s os) → All (IsPartOf k) (if b then o.1 ∷ in_slot s os else in_slot s os)
    by true e rest = All-cons (IsPartOf k) o.1 (in_slot s os) (subst (λ q. IsOfSort q o.1.part) (ap (sort_in r) (eqb-true o.0 s e) ∙ sort) (All-head (IsSlotCarried r) o os all)) rest
    by false e rest = rest

in_slots_carried : (r : Row) (k : Sort) (os : List (ℕ × Numbered)) → ((s : ℕ) → sort_in r s ≡ k) → All (IsSlotCarried r) os → All (IsPartOf k) (in_slots os)
in_slots_carried r k [] sorts all = All-nil (IsPartOf k)
in_slots_carried r k (o ∷ os) sorts all =
    All-cons (IsPartOf k) o.1 (in_slots os) (subst (λ q. IsOfSort q o.1.part) (sorts o.0) (All-head (IsSlotCarried r) o os all)) (in_slots_carried r k os sorts (All-tail (IsSlotCarried r) o os all))

-- the operands in a slot, by its sort
pub sorted_in : (n : ℕ) (t : Tree) (s : ℕ) (k : Sort) → sort_in (row_of t) s ≡ k → HasCarriedParts t → All (λ o. IsOfSort k o.part) (operands_in n t s)
sorted_in n t s k sort h = in_slot_carried (row_of t) s k (operands_with_slots n t) sort (slots_carried n t h)

-- all operands, where all slots have one sort
pub all_sorted : (n : ℕ) (t : Tree) (k : Sort) → ((s : ℕ) → sort_in (row_of t) s ≡ k) → HasCarriedParts t → All (λ o. IsOfSort k o.part) (all_operands n t)
all_sorted n t k sorts h = in_slots_carried (row_of t) k (operands_with_slots n t) sorts (slots_carried n t h)

first_sorted : (k : Sort) (os : List Numbered) → All (IsPartOf k) os → IfSome (first_of os) (IsPartOf k)
first_sorted k [] all = tt
first_sorted k (o ∷ os) all = All-head (IsPartOf k) o os all

-- the first operand in a slot, where there is one
pub first_of_sort : (n : ℕ) (t : Tree) (s : ℕ) (k : Sort) → sort_in (row_of t) s ≡ k → HasCarriedParts t → IfSome (first_in n t s) (λ o. IsOfSort k o.part)
first_of_sort n t s k sort h = first_sorted k (operands_in n t s) (sorted_in n t s k sort h)

-- the operand that fills a slot
pub filled_of_sort : (n : ℕ) (t : Tree) (s : ℕ) (k : Sort) → sort_in (row_of t) s ≡ k → HasCarriedParts t → IsOfSort k (filled_in n t s).part
filled_of_sort n t s k sort h = by (first_in n t s) (first_of_sort n t s k sort h)
  where
    by : (o : Option Numbered) → IfSome o (IsPartOf k) → IsPartOf k (elim o [ None ↦ missing_at_end n t | Some o ↦ o ])
    by None h = tt
    by (Some o) h = h

-- an operand with its slot stands where its node does
abbrev IsSlotPlaced : ℕ × Numbered → Type 0
IsSlotPlaced o = IsPlaced o.1

part_placed : (n : ℕ) (r : Row) (s : ℕ) (p : Part) (os : List (ℕ × Numbered)) → All IsSlotPlaced os → All IsSlotPlaced (with_slot s (operand_at n r s p) os)
part_placed n r s (taken t) os all = all
part_placed n r s (inner t) os all = All-cons IsSlotPlaced (s, node_with n t) os refl all
part_placed n r s (missing at) os all = by (is_operand r s)
  where
    by : (b : Bool) → All IsSlotPlaced (with_slot s (if b then Some (missing_operand n at) else None) os)
    by true = All-cons IsSlotPlaced (s, missing_operand n at) os tt all
    by false = all

from_placed : (n : ℕ) (r : Row) (ps : Forest) → All IsSlotPlaced (operands_from n r ps)
unfolding operands_from
from_placed n r no_parts = All-nil IsSlotPlaced
from_placed n r (part s p ps) = part_placed n r s p (operands_from (behind n (told_size r s p)) r ps) (from_placed (behind n (told_size r s p)) r ps)

slots_placed : (n : ℕ) (t : Tree) → All IsSlotPlaced (operands_with_slots n t)
slots_placed n (node r x ps) = from_placed (behind n 1) r ps

in_slot_placed : (s : ℕ) (os : List (ℕ × Numbered)) → All IsSlotPlaced os → All IsPlaced (in_slot s os)
in_slot_placed s [] all = All-nil IsPlaced
in_slot_placed s (o ∷ os) all = by (o.0 == s) (in_slot_placed s os (All-tail IsSlotPlaced o os all))
  where
    by : (b : Bool) → All IsPlaced (in_slot s os) → All IsPlaced (if b then o.1 ∷ in_slot s os else in_slot s os)
    by true rest = All-cons IsPlaced o.1 (in_slot s os) (All-head IsSlotPlaced o os all) rest
    by false rest = rest

in_slots_placed : (os : List (ℕ × Numbered)) → All IsSlotPlaced os → All IsPlaced (in_slots os)
in_slots_placed [] all = All-nil IsPlaced
in_slots_placed (o ∷ os) all = All-cons IsPlaced o.1 (in_slots os) (All-head IsSlotPlaced o os all) (in_slots_placed os (All-tail IsSlotPlaced o os all))

-- the operands in a slot stand where their nodes do
pub operands_placed : (n : ℕ) (t : Tree) (s : ℕ) → All IsPlaced (operands_in n t s)
operands_placed n t s = in_slot_placed s (operands_with_slots n t) (slots_placed n t)

-- all operands do
pub all_placed : (n : ℕ) (t : Tree) → All IsPlaced (all_operands n t)
all_placed n t = in_slots_placed (operands_with_slots n t) (slots_placed n t)

first_one_placed : (os : List Numbered) → All IsPlaced os → IfSome (first_of os) IsPlaced
first_one_placed [] all = tt
first_one_placed (o ∷ os) all = All-head IsPlaced o os all

-- the first operand in a slot does, where there is one
pub first_placed : (n : ℕ) (t : Tree) (s : ℕ) → IfSome (first_in n t s) IsPlaced
first_placed n t s = first_one_placed (operands_in n t s) (operands_placed n t s)

-- the operand that fills a slot does
pub filled_placed : (n : ℕ) (t : Tree) (s : ℕ) → IsPlaced (filled_in n t s)
filled_placed n t s = by (first_in n t s) (first_placed n t s)
  where
    by : (o : Option Numbered) → IfSome o IsPlaced → IsPlaced (elim o [ None ↦ missing_at_end n t | Some o ↦ o ])
    by None h = tt
    by (Some o) h = h

-- the expressions in a slot
pub operands_carried : (n : ℕ) (at : Place) (t : Tree) (s : ℕ) → sort_in (row_of t) s ≡ an_expression → IsCarried (numbered n at (inner t)) → All IsCarried (operands_in n t s)
operands_carried n at t s sort h = λ k d lt. record { formed = operands_formed n t s h.formed k d lt; placed = operands_placed n t s k d lt; rows = sorted_in n t s an_expression sort (expression_parts t h.rows) k d lt }

-- all operands, where all are expressions
pub all_carried : (n : ℕ) (at : Place) (t : Tree) → ((s : ℕ) → sort_in (row_of t) s ≡ an_expression) → IsCarried (numbered n at (inner t)) → All IsCarried (all_operands n t)
all_carried n at t sorts h = λ k d lt. record { formed = all_operands_formed n t h.formed k d lt; placed = all_placed n t k d lt; rows = all_sorted n t an_expression sorts (expression_parts t h.rows) k d lt }

-- the expression that fills a slot
pub filled_carried : (n : ℕ) (at : Place) (t : Tree) (s : ℕ) → sort_in (row_of t) s ≡ an_expression → IsCarried (numbered n at (inner t)) → IsCarried (filled_in n t s)
filled_carried n at t s sort h = record { formed = filled_formed n t s h.formed; placed = filled_placed n t s; rows = filled_of_sort n t s an_expression sort (expression_parts t h.rows) }

-- the cases in a slot
pub cases_carried : (n : ℕ) (at : Place) (t : Tree) (s : ℕ) → sort_in (row_of t) s ≡ a_case → IsCarried (numbered n at (inner t)) → All IsCarriedCase (operands_in n t s)
cases_carried n at t s sort h = λ k d lt. record { formed = operands_formed n t s h.formed k d lt; rows = sorted_in n t s a_case sort (expression_parts t h.rows) k d lt }

-- the bindings in a slot
pub bindings_carried : (n : ℕ) (at : Place) (t : Tree) (s : ℕ) → sort_in (row_of t) s ≡ a_binding → IsCarried (numbered n at (inner t)) → All IsCarriedBinding (operands_in n t s)
bindings_carried n at t s sort h = λ k d lt. record { formed = operands_formed n t s h.formed k d lt; rows = sorted_in n t s a_binding sort (expression_parts t h.rows) k d lt }

-- all slots of a row whose parts are typed in order are those of expressions
pub ordered_sorts : (r : Row) → IsOrderedRow r → (s : ℕ) → sort_in r s ≡ an_expression
ordered_sorts ebegin_row h s = refl
ordered_sorts elist_row h s = refl
ordered_sorts field_row h s = refl
ordered_sorts eassert_row h s = refl
ordered_sorts ewhile_row h s = refl
ordered_sorts econs_row h s = refl
ordered_sorts etuple_row h s = refl
ordered_sorts eif_row h s = refl
ordered_sorts eseq_row h s = refl
ordered_sorts _ h s = absurd h

-- the row of such a node is a carried one
pub row_carried : (n : ℕ) (at : Place) (r : Row) (x : Extent) (ps : Forest) → IsCarried (numbered n at (inner (node r x ps))) → IsCarriedRow r (node r x ps) ps
row_carried n at r x ps h = h.rows.0

-- one of some operands
pub one_carried : {X : Type 0} (f : X → Numbered) (xs : List X) (i : ℕ) (x : X) → All IsCarried (map f xs) → slice_get xs i ≡ Some x → IsCarried (f x)
one_carried f [] i x all e = absurd (cc)
one_carried f (y ∷ ys) zero x all e = let s : y ≡ x = cc in subst (λ z. IsCarried (f z)) s (All-head IsCarried (f y) (map f ys) all)
one_carried f (y ∷ ys) (suc i) x all e = one_carried f ys i x (All-tail IsCarried (f y) (map f ys) all) e
