-- The last of lists that are joined, and of a list mapped.
use Rattle.std.proofs.Common.{◌≡◌, List, [], ◌∷◌, ◌++◌, ◌+◌, refl, map, Option, Some, None, option_map, ℕ, Bool, true, false, ◌&&◌, if◌then◌else◌, arith}
use Rattle.std.specs.Option.{option_or}
use Rattle.tree_model.specs.Rows.{Row}
use Rattle.tree_model.specs.Slots.{is_operand}
use Rattle.tree_model.specs.Nodes.{holds, holders, forest_holders, part_holders, items_holders, id, last_of, only_if}
use Rattle.tree_model.specs.Trees.{Tree, Forest, Part, node, no_parts, part, taken, inner, missing, part_size}
use Rattle.tree_model.specs.Lasts.{last_holder, last_in, last_in_part, last_id}

-- a list with a member has a last one, whatever is put in its place
last_of_cons : {A : Type 0} (y : A) (ys : List A) (o : Option A) → option_or (last_of (y ∷ ys)) o ≡ last_of (y ∷ ys)
last_of_cons y [] o = refl
last_of_cons y (z ∷ zs) o = last_of_cons z zs o

-- nothing in place of nothing
option_or_none : {A : Type 0} (o : Option A) → option_or o None ≡ o
option_or_none None = refl
option_or_none (Some x) = refl

-- the last of two lists is that of the second, or else that of the first
pub last_of_append : {A : Type 0} (xs ys : List A) → last_of (xs ++ ys) ≡ option_or (last_of ys) (last_of xs)
last_of_append [] ys = grind (arith, option_or_none)
last_of_append (x ∷ []) [] = refl
last_of_append (x ∷ []) (y ∷ ys) = grind (arith, last_of_cons)
last_of_append (x ∷ w ∷ ws) ys = last_of_append (w ∷ ws) ys

-- the last of at most one number
pub last_of_only_if : (b : Bool) (n : ℕ) → last_of (only_if b n) ≡ (if b then Some n else None)
last_of_only_if true n = refl
last_of_only_if false n = refl

-- the last of a list mapped
pub last_of_map : {A B : Type 0} (f : A → B) (xs : List A) → last_of (map f xs) ≡ option_map f (last_of xs)
last_of_map f [] = refl
last_of_map f (x ∷ []) = refl
last_of_map f (x ∷ y ∷ ys) = last_of_map f (y ∷ ys)

-- The last of the holders is what a descent finds.
mutual
  pub last_holder_lem : (o n : ℕ) (t : Tree) → last_holder o n t ≡ last_of (holders o n t)
  last_holder_lem o n (node r x ps) = rw (last_of_append (only_if (holds o x.span) n) (forest_holders o (n + 1) r ps), last_of_only_if (holds o x.span) n, ← last_in_lem o (n + 1) r ps) refl

  pub last_in_lem : (o n : ℕ) (r : Row) (ps : Forest) → last_in o n r ps ≡ last_of (forest_holders o n r ps)
  last_in_lem o n r no_parts = refl
  last_in_lem o n r (part slot p ps) = rw (last_of_append (part_holders o n r slot p) (forest_holders o (n + part_size r slot p) r ps), ← last_in_lem o (n + part_size r slot p) r ps, ← last_in_part_lem o n r slot p) refl

  pub last_in_part_lem : (o n : ℕ) (r : Row) (slot : ℕ) (p : Part) → last_in_part o n r slot p ≡ last_of (part_holders o n r slot p)
  last_in_part_lem o n r slot (taken t) = refl
  last_in_part_lem o n r slot (inner t) = last_holder_lem o n t
  last_in_part_lem o n r slot (missing p) = rw (last_of_only_if (is_operand r slot && holds o p) n) refl

-- The same of the items of a text.
pub last_id_lem : (o i : ℕ) (ts : List Tree) → last_id o i ts ≡ last_of (items_holders o i ts)
last_id_lem o i [] = refl
last_id_lem o i (t ∷ ts) = rw (last_of_append (map (id i) (holders o 0 t)) (items_holders o (i + 1) ts), last_of_map (id i) (holders o 0 t), ← last_id_lem o (i + 1) ts, ← last_holder_lem o 0 t) refl
