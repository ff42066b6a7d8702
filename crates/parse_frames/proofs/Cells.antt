-- The nodes among parts, from the newest back.
use Rattle.std.proofs.Common.{◌≡◌, ℕ, ◌≤◌, ◌<◌, ◌+◌, ◌-◌, ◌^◌, min, List, [], ◌∷◌, ◌++◌, length, drop, reverse, refl, sym, ◌∙◌, ap, subst, Option, Some, None, append_assoc, arith}
use Rattle.std.proofs.lemmas.List.{reverse-append, length-append, length-reverse, drop-append-le, drop_all}
use Rattle.std.specs.declared.rc.Rc.{Rc}
use Rattle.std.specs.declared.alloc.Global.{Global}
use Rattle.tree_model.specs.Trees as plain
use Rattle.tree_model.specs.Trees.{Tree}
use Rattle.grammar_model.specs.Named.{inner_of}
use Rattle.syntax_tree.specs.View.{part_view}
use Rattle.syntax_tree.specs.declared.tree.Part.{Part}
use Rattle.parse_frames.specs.declared.frames.Cell.{Cell, out-Cell, fold_out-Cell}
use Rattle.parse_frames.specs.declared.frames.Cell.TheFolds.{map-Cell}
use Rattle.parse_frames.specs.Frames.{count_in, heights_in, nodes_in, running_notes}
use Rattle.parse_frames.specs.View.{cell_notes, cell_step, cell_view, notes_step, parts_notes, parts_view}

-- one cell, and the cells before it
view_step : (s h n : ℕ) (p : Part) (b : Option (Rc Cell Global)) → cell_step (map-Cell Cell (List (ℕ × plain.Part)) cell_view (record { slot = s; part = p; height = h; nodes = n; before = b })) ≡ (s, part_view p) ∷ parts_view b
view_step s h n p None = refl
view_step s h n p (Some r) = refl

-- what one cell notes, and what the cells before it note
note_step : (s h n : ℕ) (p : Part) (b : Option (Rc Cell Global)) → notes_step (map-Cell Cell (List (ℕ × ℕ)) cell_notes (record { slot = s; part = p; height = h; nodes = n; before = b })) ≡ (h, n) ∷ parts_notes b
note_step s h n p None = refl
note_step s h n p (Some r) = refl

-- a cell's part, and those before it
cell_parts : (c : Cell) → cell_view c ≡ ((out-Cell c).slot, part_view (out-Cell c).part) ∷ parts_view (out-Cell c).before
cell_parts c = let o = out-Cell c in fold_out-Cell (List (ℕ × plain.Part)) cell_step c ∙ view_step o.slot o.height o.nodes o.part o.before

cell_noted : (c : Cell) → cell_notes c ≡ ((out-Cell c).height, (out-Cell c).nodes) ∷ parts_notes (out-Cell c).before
cell_noted c = let o = out-Cell c in fold_out-Cell (List (ℕ × ℕ)) notes_step c ∙ note_step o.slot o.height o.nodes o.part o.before

-- the first and the others of equal lists
firsts : (h n k m : ℕ) (xs ys : List (ℕ × ℕ)) → (h, n) ∷ xs ≡ (k, m) ∷ ys → (n ≡ m) × (xs ≡ ys)
firsts h n k m xs ys e = let p : (h, n) ≡ (k, m) = cc in (ap (λ (q : ℕ × ℕ). q.1) p, cc)

-- where a cell notes what is so, it notes how many nodes there are, and the cells before it note what is so
pub record IsNoted (c : Cell) : Type 0 where
  pub count : (out-Cell c).nodes ≡ min (length (inner_of (part_view (out-Cell c).part)) + length (nodes_in (parts_view (out-Cell c).before))) (2 ^ 32 - 1)
  pub before : parts_notes (out-Cell c).before ≡ running_notes (parts_view (out-Cell c).before)
  pub nodes : nodes_in (cell_view c) ≡ inner_of (part_view (out-Cell c).part) ++ nodes_in (parts_view (out-Cell c).before)

pub is_noted : (c : Cell) → cell_notes c ≡ running_notes (cell_view c) → IsNoted c
is_noted c told =
    let o = out-Cell c in
    let d : ℕ × plain.Part = (o.slot, part_view o.part) in
    let ds = parts_view o.before in
    let (a, b) = firsts o.height o.nodes (heights_in (d ∷ ds)) (count_in (d ∷ ds)) (parts_notes o.before) (running_notes ds) (sym (cell_noted c) ∙ told ∙ ap running_notes (cell_parts c)) in
    record {
      count = a ∙ ap (λ n. min n (2 ^ 32 - 1)) (length-append (inner_of (part_view o.part)) (nodes_in ds));
      before = b;
      nodes = ap nodes_in (cell_parts c);
    }

few : (p : plain.Part) → length (inner_of p) ≤ 1
few (plain.taken t) = omega arith
few (plain.inner t) = omega arith
few (plain.missing p) = omega arith

-- one cell more
pub cell_next : (c : Cell) (xs ys all : List Tree) → cell_notes c ≡ running_notes (cell_view c) → xs ++ nodes_in (cell_view c) ≡ all → ys ≡ xs ++ inner_of (part_view (out-Cell c).part) → ys ++ nodes_in (parts_view (out-Cell c).before) ≡ all
cell_next c xs ys all told e is =
    let n = is_noted c told in
    let rest = nodes_in (parts_view (out-Cell c).before) in
    ap (λ zs. zs ++ rest) is ∙ append_assoc xs (inner_of (part_view (out-Cell c).part)) rest ∙ ap (λ zs. xs ++ zs) (sym n.nodes) ∙ e

pub cell_enough : (c : Cell) (from most : ℕ) → cell_notes c ≡ running_notes (cell_view c) → ((out-Cell c).nodes ≤ from → ⊥) → min from most ≤ length (nodes_in (parts_view (out-Cell c).before))
cell_enough c from most told more = let n = is_noted c told in let a = n.count in let b = few (part_view (out-Cell c).part) in omega (arith, more)

-- a cell with at most so many nodes
pub cell_enough_left : (c : Cell) (from : ℕ) (xs all : List Tree) → cell_notes c ≡ running_notes (cell_view c) → xs ++ nodes_in (cell_view c) ≡ all → length all < 2 ^ 32 - 1 → (out-Cell c).nodes ≤ from → length (nodes_in (cell_view c)) ≤ from
cell_enough_left c from xs all told e some le =
    let n = is_noted c told in
    let a = n.count in
    let b = ap length n.nodes ∙ length-append (inner_of (part_view (out-Cell c).part)) (nodes_in (parts_view (out-Cell c).before)) in
    let d = sym (ap length e) ∙ length-append xs (nodes_in (cell_view c)) in omega (arith, some, le)

past : (xs ys : List Tree) (n : ℕ) → length xs ≡ n → drop n (xs ++ ys) ≡ ys
past xs ys n e = drop-append-le n xs ys (omega (arith, e)) ∙ ap (λ zs. zs ++ ys) (drop_all n xs (omega (arith, e)))

-- the nodes so far, where as many are left as are passed over
pub from_is : (xs ys all : List Tree) (from : ℕ) → xs ++ ys ≡ all → min from (length all) ≤ length ys → length ys ≤ from → reverse xs ≡ drop from (reverse all)
from_is xs ys all from e least most =
    by xs e (sym (ap length e) ∙ length-append xs ys)
  where
    by : (xs : List Tree) → xs ++ ys ≡ all → length all ≡ length xs + length ys → reverse xs ≡ drop from (reverse all)
    by [] e n = let a = length-reverse all in sym (drop_all from (reverse all) (omega (arith, n, most)))
    by (x ∷ xs) e n =
        let r = length-reverse ys in
        let same : length (reverse ys) ≡ from = omega (arith, n, least, most) in
        sym (ap (drop from) (ap reverse (sym e) ∙ reverse-append (x ∷ xs) ys) ∙ past (reverse ys) (reverse (x ∷ xs)) from same)

-- the cell of parts that are not none
pub cell_here : (o : Option (Rc Cell Global)) (r : Rc Cell Global) (c : Cell) → o ≡ Some r → c ≡ r.value → parts_notes o ≡ running_notes (parts_view o) → cell_notes c ≡ running_notes (cell_view c)
cell_here o r c is same told = rw same (subst (λ o. parts_notes o ≡ running_notes (parts_view o)) is told)

pub cell_nodes : (o : Option (Rc Cell Global)) (r : Rc Cell Global) (c : Cell) → o ≡ Some r → c ≡ r.value → nodes_in (parts_view o) ≡ nodes_in (cell_view c)
cell_nodes o r c is same = ap (λ o. nodes_in (parts_view o)) is ∙ ap (λ c. nodes_in (cell_view c)) (sym same)
