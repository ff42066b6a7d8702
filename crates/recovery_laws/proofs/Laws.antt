-- What holds of the parser's trees with the names of their rows.
use Rattle.std.proofs.Common.{◌≡◌, ◌≤◌, ℕ, ◌+◌, max, List, [], ◌++◌, sym, ◌∙◌, ap, subst, refl, arith}
use Rattle.token_model.specs.Kinds.{Tok}
use Rattle.tree_model.specs.Trees as plain
use Rattle.tree_model.specs.Rows.{Row}
use Rattle.tree_model.specs.Extents.{extent_of, told_heights, told_height}
use Rattle.grammar_model.specs.Trees.{Tree, Forest, Part, node, no_parts, part, taken, inner, missing}
use Rattle.grammar_model.specs.Trees as numbered
use Rattle.recovery_model.specs.Steps.{Merged, left_out, added_in}
use Rattle.recovery_model.specs.Recovery.{recover}
use Rattle.grammar_model.specs.Named.{named, named_parts, named_part}
use Rattle.grammar_model.specs.Ocaml.{Text, grammar, row_name}
use Rattle.recovery_laws.proofs.Promises as promises
use Rattle.grammar_laws.specs.Trees.{IsTreeOf, holes_of, forest_holes, part_holes}

-- it is the recovered one, and nothing is reported
pub recovered : (text : Text) (ts : List Tok) (T : plain.Tree) → IsTreeOf text ts T → (T ≡ named row_name (recover (grammar text) ts).0) × ((recover (grammar text) ts).1 ≡ [])
recovered text ts T t =
    let e : recover (grammar text) ts ≡ (t.tree, []) = promises.recover_exact text ts t.tree t.inside in
    (t.named ∙ sym (ap (λ r. named row_name r.0) e), ap (λ r. r.1) e)

-- where nothing is reported, the recovered tree is in the grammar
pub faultless : (text : Text) (ts : List Tok) → (recover (grammar text) ts).1 ≡ [] → IsTreeOf text ts (named row_name (recover (grammar text) ts).0)
faultless text ts e = record { tree = (recover (grammar text) ts).0; inside = promises.recover_faultless text ts e; named = refl }

-- a named tree has the tokens of the tree
mutual
  yield_named : (name : ℕ → Row) (T : Tree) → plain.yield_of (named name T) ≡ numbered.yield_of T
  yield_named name (node r f) = yields_named name f

  yields_named : (name : ℕ → Row) (f : Forest) → plain.forest_yield (named_parts name f) ≡ numbered.forest_yield f
  yields_named name no_parts = refl
  yields_named name (part p c f) = ap (λ ts. ts ++ plain.forest_yield (named_parts name f)) (part_named name c) ∙ ap (λ ts. numbered.part_yield c ++ ts) (yields_named name f)

  part_named : (name : ℕ → Row) (c : Part) → plain.part_yield (named_part name c) ≡ numbered.part_yield c
  part_named name (taken t) = refl
  part_named name (inner t) = yield_named name t
  part_named name (missing p) = refl

-- and its missing parts
mutual
  holes_named : (name : ℕ → Row) (T : Tree) → holes_of (named name T) ≡ numbered.holes_of T
  holes_named name (node r f) = all_holes_named name f

  all_holes_named : (name : ℕ → Row) (f : Forest) → forest_holes (named_parts name f) ≡ numbered.forest_holes f
  all_holes_named name no_parts = refl
  all_holes_named name (part p c f) = ap (λ n. n + forest_holes (named_parts name f)) (hole_named name c) ∙ ap (λ n. numbered.part_holes c + n) (all_holes_named name f)

  hole_named : (name : ℕ → Row) (c : Part) → part_holes (named_part name c) ≡ numbered.part_holes c
  hole_named name (taken t) = refl
  hole_named name (inner t) = holes_named name t
  hole_named name (missing p) = refl

-- and its height
mutual
  height_named : (name : ℕ → Row) (T : Tree) → (extent_of (named name T)).height ≡ numbered.height_of T
  height_named name (node r f) = let e : told_heights (named_parts name f) ≡ numbered.forest_height f = heights_named name f in omega arith

  heights_named : (name : ℕ → Row) (f : Forest) → told_heights (named_parts name f) ≡ numbered.forest_height f
  heights_named name no_parts = refl
  heights_named name (part p c f) = ap (λ n. max n (told_heights (named_parts name f))) (part_height_named name c) ∙ ap (λ n. max (numbered.part_height c) n) (heights_named name f)

  part_height_named : (name : ℕ → Row) (c : Part) → told_height (named_part name c) ≡ numbered.part_height c
  part_height_named name (taken t) = refl
  part_height_named name (inner t) = height_named name t
  part_height_named name (missing p) = refl

-- the tokens are those of the recovered tree and those left out, and the faults count its missing parts
pub lossless : (text : Text) (ts : List Tok) →
    Merged ts (plain.yield_of (named row_name (recover (grammar text) ts).0)) (left_out (recover (grammar text) ts).1)
    × (holes_of (named row_name (recover (grammar text) ts).0) ≡ added_in (recover (grammar text) ts).1)
lossless text ts =
    let kept = promises.no_token_lost text ts in
    let T : Tree = (recover (grammar text) ts).0 in
    (subst (λ ys. Merged ts ys (left_out (recover (grammar text) ts).1)) (sym (yield_named row_name T)) kept.0, holes_named row_name T ∙ kept.1)

-- no recovered tree is higher than 512
pub low : (text : Text) (ts : List Tok) → (extent_of (named row_name (recover (grammar text) ts).0)).height ≤ 512
low text ts = subst (λ n. n ≤ 512) (sym (height_named row_name (recover (grammar text) ts).0)) (promises.well_formed text ts).low
