-- The items of the outermost frame, as the code's frames have them.
use Rattle.std.proofs.Common.{◌≡◌, ℕ, ◌≤◌, List, [], ◌∷◌, ◌++◌, length, map, reverse, refl, sym, ◌∙◌, ap, subst, arith, append_assoc, append-nil}
use Rattle.std.proofs.lemmas.List.{length-append, length-map, map-append, reverse-append}
use Rattle.tree_model.specs.Trees as plain
use Rattle.grammar_model.specs.Trees.{Part, node, taken, inner, missing}
use Rattle.grammar_model.specs.Machine.{Frame, Stack}
use Rattle.grammar_model.specs.Named.{named, inner_of, forest_items}
use Rattle.grammar_model.specs.Ocaml.{row_name}
use Rattle.settled_laws.specs.Settled.{inner_in, inners, outermost, outer}
use Rattle.settled_laws.proofs.Laws.{inner_named}
use Rattle.syntax_rows.specs.declared.ocaml.Text.{Text}
use Rattle.parse_frames.specs.Frames as frames
use Rattle.parse_frames.specs.Frames.{count_in, nodes_in, onto, outer_parts}
use Rattle.parse_frames.specs.Named.{named_done, named_frame}
use Rattle.frame_steps.specs.Order.{done_nodes, part_nodes, weight}
use Rattle.frame_steps.specs.View.{Stands}

-- the outermost frame's parts in their named form
outer_named : (S : Stack) (f : Frame) → outer_parts (named_done row_name f.done) (map (named_frame row_name) S) ≡ named_done row_name (outermost f S).done
outer_named [] f = refl
outer_named (g ∷ S) f = outer_named S g

-- the nodes among parts in their named form
nodes_named : (ds : List (ℕ × Part)) → nodes_in (named_done row_name ds) ≡ map (named row_name) (inners ds)
nodes_named [] = refl
nodes_named (d ∷ ds) =
    ap (λ xs. xs ++ nodes_in (named_done row_name ds)) (inner_named d.1) ∙ ap (λ xs. map (named row_name) (inner_in d.1) ++ xs) (nodes_named ds) ∙ sym (map-append (named row_name) (inner_in d.1) (inners ds))

inner_few : (c : Part) → length (inner_in c) ≤ part_nodes c
inner_few (taken t) = omega arith
inner_few (inner (node r f)) = omega arith
inner_few (missing place) = omega arith

inners_few : (ds : List (ℕ × Part)) → length (inners ds) ≤ done_nodes ds
inners_few [] = omega arith
inners_few (d ∷ ds) = let a = inner_few d.1 in let b = inners_few ds in let e = length-append (inner_in d.1) (inners ds) in omega arith

-- no more nodes than are counted
pub nodes_few : (ds : List (ℕ × Part)) → length (nodes_in (named_done row_name ds)) ≤ done_nodes ds
nodes_few ds = let a = inners_few ds in let e = ap length (nodes_named ds) ∙ length-map (inners ds) (named row_name) in omega arith

outer_light : (S : Stack) (f : Frame) → done_nodes (outermost f S).done ≤ weight (f ∷ S)
outer_light [] f = omega arith
outer_light (g ∷ S) f = let a = outer_light S g in omega arith

-- how many items the outermost frame has
pub outer_count : (text : Text) (f : Frame) (S : Stack) (at : ℕ) (v : frames.Stack) → Stands text (f ∷ S) at v → count_in (outer_parts v.top.done v.below) ≡ length (inners (outer (f ∷ S)).done)
outer_count text f S at v st =
    let F = outermost f S in
    let a = inners_few F.done in
    let b = outer_light S f in
    let light = st.order.light in
    let e = ap (λ (xs : List (ℕ × plain.Part)). length (nodes_in xs)) (outer_named S f) ∙ ap length (nodes_named F.done) ∙ length-map (inners F.done) (named row_name) in
    subst (λ (w : frames.Stack). count_in (outer_parts w.top.done w.below) ≡ length (inners F.done)) st.named (omega arith)

-- the items of a node are the nodes among its parts
onto_items : (ds : List (ℕ × plain.Part)) (ps : plain.Forest) → forest_items (onto ds ps) ≡ reverse (nodes_in ds) ++ forest_items ps
onto_items [] ps = refl
onto_items (d ∷ ds) ps =
    onto_items ds (plain.part d.0 d.1 ps) ∙ ap (λ xs. reverse (nodes_in ds) ++ (xs ++ forest_items ps)) (sym (once d.1)) ∙ sym (append_assoc (reverse (nodes_in ds)) (reverse (inner_of d.1)) (forest_items ps))
    ∙ ap (λ xs. xs ++ forest_items ps) (sym (reverse-append (inner_of d.1) (nodes_in ds)))
  where
    once : (p : plain.Part) → reverse (inner_of p) ≡ inner_of p
    once (plain.taken t) = refl
    once (plain.inner t) = refl
    once (plain.missing p) = refl

pub items_onto : (ds : List (ℕ × plain.Part)) → forest_items (onto ds plain.no_parts) ≡ reverse (nodes_in ds)
items_onto ds = onto_items ds plain.no_parts ∙ append-nil (reverse (nodes_in ds))
