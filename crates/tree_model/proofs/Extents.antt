-- What a node over parts tells is true where the parts tell the truth.
use Rattle.std.proofs.Common.{◌≡◌, ℕ, refl, Option, Some, None, arith}
use Rattle.tree_model.specs.Rows.{Row}
use Rattle.tree_model.specs.Trees.{Place, Forest, Part, node, no_parts, part, taken, inner, missing, part_size, forest_size, IsSized, AreSized, IsPartSized}
use Rattle.tree_model.specs.Extents.{joined, told_size, told_sizes, node_over}

-- places are joined in any grouping
pub joined_assoc : (a b c : Option Place) → joined (joined a b) c ≡ joined a (joined b c)
joined_assoc None b c = refl
joined_assoc (Some p) None c = refl
joined_assoc (Some p) (Some q) None = refl
joined_assoc (Some p) (Some q) (Some r) = refl

-- a part that is sized tells its size
pub told_size_sized : (r : Row) (slot : ℕ) (p : Part) → IsPartSized p → told_size r slot p ≡ part_size r slot p
told_size_sized r slot (taken t) h = refl
told_size_sized r slot (inner (node q x ps)) h = h.0
told_size_sized r slot (missing p) h = refl

-- parts that are sized tell their sizes
pub told_sizes_sized : (r : Row) (ps : Forest) → AreSized ps → told_sizes r ps ≡ forest_size r ps
told_sizes_sized r no_parts h = refl
told_sizes_sized r (part slot p ps) h = let a : told_size r slot p ≡ part_size r slot p = told_size_sized r slot p h.0 in let b : told_sizes r ps ≡ forest_size r ps = told_sizes_sized r ps h.1 in omega arith

-- a node over parts that are sized is sized
pub node_over_sized : (r : Row) (ps : Forest) → AreSized ps → IsSized (node_over r ps)
node_over_sized r ps h = let b : told_sizes r ps ≡ forest_size r ps = told_sizes_sized r ps h in (omega arith, h)
