-- Parts that are kept newest first, put in order.
use Rattle.std.proofs.Common.{◌≡◌, ℕ, ◌+◌, max, List, [], ◌∷◌, ◌++◌, reverse, refl, sym, ◌∙◌, ap, Option, None, append-nil, append_assoc, arith}
use Rattle.std.proofs.lemmas.List.{reverse-append}
use Rattle.std.specs.declared.rc.Rc.{Rc}
use Rattle.std.specs.declared.alloc.Global.{Global}
use Rattle.tree_model.specs.Rows.{Row}
use Rattle.tree_model.specs.Trees.{Forest, Part, no_parts, part}
use Rattle.tree_model.specs.Extents.{told_size, told_sizes, told_height, told_heights}
use Rattle.syntax_tree.specs.View.{forest_of}
use Rattle.parse_frames.specs.Frames.{onto, sizes_in, heights_in}
use Rattle.parse_frames.specs.declared.frames.Cell.{Cell}
use Rattle.parse_frames.specs.View.{parts_view}

-- parts turned round stand before others as they do put on them one by one
onto_is : (xs ys : List (ℕ × Part)) → forest_of (reverse xs ++ ys) ≡ onto xs (forest_of ys)
onto_is [] ys = refl
onto_is (x ∷ xs) ys =
    ap (λ zs. forest_of (zs ++ ys)) (reverse-append (x ∷ []) xs) ∙ ap forest_of (append_assoc (reverse xs) (x ∷ []) ys) ∙ onto_is xs (x ∷ ys)

-- all parts that were collected, turned round, are the parts put on none
pub turned : (xs zs : List (ℕ × Part)) (rest : Option (Rc Cell Global)) → rest ≡ None → xs ++ parts_view rest ≡ zs → forest_of (reverse xs) ≡ onto zs no_parts
turned xs zs rest none e =
    let same : xs ≡ zs = sym (append-nil xs) ∙ ap (λ r. xs ++ parts_view r) (sym none) ∙ e in
    ap forest_of (sym (append-nil (reverse xs))) ∙ onto_is xs [] ∙ ap (λ xs. onto xs no_parts) same

-- the sizes of parts in order are those of the parts and those of what they are put on
sizes_onto : (r : Row) (ds : List (ℕ × Part)) (ps : Forest) → told_sizes r (onto ds ps) ≡ sizes_in r ds + told_sizes r ps
sizes_onto r [] ps = omega arith
sizes_onto r (d ∷ ds) ps = let e : told_sizes r (onto ds (part d.0 d.1 ps)) ≡ sizes_in r ds + (told_size r d.0 d.1 + told_sizes r ps) = sizes_onto r ds (part d.0 d.1 ps) in omega arith

-- the sizes of a frame's parts, put in order
pub told_sizes_onto : (r : Row) (ds : List (ℕ × Part)) → told_sizes r (onto ds no_parts) ≡ sizes_in r ds
told_sizes_onto r ds = let e : told_sizes r (onto ds no_parts) ≡ sizes_in r ds + 0 = sizes_onto r ds no_parts in omega arith

-- the largest height of parts in order is the larger of theirs and that of what they are put on
heights_onto : (ds : List (ℕ × Part)) (ps : Forest) → told_heights (onto ds ps) ≡ max (heights_in ds) (told_heights ps)
heights_onto [] ps = omega arith
heights_onto (d ∷ ds) ps = let e : told_heights (onto ds (part d.0 d.1 ps)) ≡ max (heights_in ds) (max (told_height d.1) (told_heights ps)) = heights_onto ds (part d.0 d.1 ps) in omega arith

-- the largest height of a frame's parts, put in order
pub told_heights_onto : (ds : List (ℕ × Part)) → told_heights (onto ds no_parts) ≡ heights_in ds
told_heights_onto ds = let e : told_heights (onto ds no_parts) ≡ max (heights_in ds) 0 = heights_onto ds no_parts in omega arith
