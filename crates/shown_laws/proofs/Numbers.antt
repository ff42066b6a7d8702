-- The numbers of a text's typed nodes: each is below the size of its item, and an item and a number below 2^32 in it make one number for the whole text.
use Rattle.std.proofs.Common.{◌≡◌, ◌≤◌, ◌<◌, ℕ, suc, ◌+◌, ◌*◌, ◌^◌, Bool, true, false, List, [], ◌∷◌, Option, Some, refl, arith}
use Rattle.std.specs.Prelude.{All, not, slice_get, ◌&&◌, if◌then◌else◌}
use Rattle.std.proofs.lemmas.List.Elements.{All-nil, All-cons, All-append, All-head, All-tail, All-weaker}
use Rattle.tree_model.specs.Rows.{Row}
use Rattle.tree_model.specs.Trees.{Place, Tree, Forest, Part, node, no_parts, part, taken, inner, missing, size_of, forest_size, part_size}
use Rattle.tree_model.specs.Nodes.{id, holds}
use Rattle.query_model.specs.Outlines.{is_slot}
use Rattle.query_model.specs.TypedNodes.{Typed, typed, typed_if, typed_in, typed_among, typed_part, typed_items, is_typed_row, is_expression_slot, has_name_in, has_taken_in, last_name_slot, label_slot}

-- what is so of each that a list has at some place is so of all
pub all_of : {A : Type 0} (P : A → Type 0) (xs : List A) → ((k : ℕ) (x : A) → slice_get xs k ≡ Some x → P x) → All P xs
all_of P [] h = All-nil P
all_of P (x ∷ xs) h = All-cons P x xs (h 0 x refl) (all_of P xs (λ k. h (suc k)))

-- a number that is not above another
abbrev IsUpTo : ℕ → Typed → Type 0
IsUpTo top m = m.id.pre ≤ top

if_up_to : (top o i n : ℕ) (b : Bool) (p : Place) → n ≤ top → All (IsUpTo top) (typed_if b o (id i n) p)
if_up_to top o i n b p le = by (b && holds o p)
  where
    by : (c : Bool) → All (IsUpTo top) (if c then typed (id i n) p ∷ [] else [])
    by true = All-cons (IsUpTo top) (typed (id i n) p) [] le (All-nil (IsUpTo top))
    by false = All-nil (IsUpTo top)

-- the typed nodes of a tree have numbers up to that after it
mutual
  in_up_to : (top o i n : ℕ) (b : Bool) (t : Tree) → n + size_of t ≤ top → All (IsUpTo top) (typed_in o i n b t)
  in_up_to top o i n b (node r x ps) le =
      All-append (IsUpTo top) (typed_if (is_typed_row r && not (b && has_name_in (last_name_slot r) ps)) o (id i n) x.span) (typed_among o i (n + 1) r (label_slot r (has_taken_in 4 ps)) ps)
      (if_up_to top o i n (is_typed_row r && not (b && has_name_in (last_name_slot r) ps)) x.span (omega arith))
      (among_up_to top o i (n + 1) r (label_slot r (has_taken_in 4 ps)) ps (omega arith))

  among_up_to : (top o i n : ℕ) (r : Row) (label : Option ℕ) (ps : Forest) → n + forest_size r ps ≤ top → All (IsUpTo top) (typed_among o i n r label ps)
  among_up_to top o i n r label no_parts le = All-nil (IsUpTo top)
  among_up_to top o i n r label (part slot p ps) le =
      All-append (IsUpTo top) (typed_part o i n r (is_slot label slot) slot p) (typed_among o i (n + part_size r slot p) r label ps)
      (part_up_to top o i n r (is_slot label slot) slot p (omega arith)) (among_up_to top o i (n + part_size r slot p) r label ps (omega arith))

  part_up_to : (top o i n : ℕ) (r : Row) (b : Bool) (slot : ℕ) (p : Part) → n + part_size r slot p ≤ top → All (IsUpTo top) (typed_part o i n r b slot p)
  part_up_to top o i n r b slot (taken t) le = All-nil (IsUpTo top)
  part_up_to top o i n r b slot (inner t) le = in_up_to top o i n b t le
  part_up_to top o i n r b slot (missing p) le = if_up_to top o i n (is_expression_slot r slot) p (omega arith)

-- a typed node whose number in its item is below 2^32
abbrev pub IsLow : Typed → Type 0
IsLow m = m.id.pre < 2 ^ 32

low_of : (top : ℕ) → top < 2 ^ 32 → (ns : List Typed) → All (IsUpTo top) ns → All IsLow ns
low_of top lt ns h = All-weaker (IsUpTo top) IsLow (λ m le. omega arith) ns h

-- So are all where each item has fewer than 2^32 nodes.
pub items_low : (o i : ℕ) (ts : List Tree) → All (λ t. size_of t < 2 ^ 32) ts → All IsLow (typed_items o i ts)
items_low o i [] few = All-nil IsLow
items_low o i (t ∷ ts) few =
    let lt = All-head (λ u. size_of u < 2 ^ 32) t ts few in
    All-append IsLow (typed_in o i 0 false t) (typed_items o (i + 1) ts) (low_of (size_of t) lt (typed_in o i 0 false t) (in_up_to (size_of t) o i 0 false t (omega arith)))
    (items_low o (i + 1) ts (All-tail (λ u. size_of u < 2 ^ 32) t ts few))

-- an item and a low number in it are those of their number in the text
pub same_node : (i p j q : ℕ) → p < 2 ^ 32 → q < 2 ^ 32 → i * 2 ^ 32 + p ≡ j * 2 ^ 32 + q → (i ≡ j) × (p ≡ q)
same_node i p j q a b e = (omega arith, omega arith)
