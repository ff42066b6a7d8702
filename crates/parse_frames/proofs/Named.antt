-- What is done with a stack is the named form of what the machine does with its frames.
use Rattle.std.proofs.Common.{◌≡◌, ℕ, List, [], ◌∷◌, ◌+◌, suc, length, map, arith, refl, ap, Some}
use Rattle.token_model.specs.Kinds.{Tok}
use Rattle.tree_model.specs.Rows.{Row}
use Rattle.tree_model.specs.Trees as plain
use Rattle.tree_model.specs.Extents.{node_over, extent_of, told_height, told_heights}
use Rattle.grammar_model.specs.Keys.{key_of}
use Rattle.grammar_model.specs.Trees.{Tree, Forest, Part, node, no_parts, part, taken, inner, missing, height_of, forest_height, part_height}
use Rattle.grammar_model.specs.Tables.{Table, What, nothing, token, operand, plain as no_operand, hole}
use Rattle.grammar_model.specs.Grammar.{last_in}
use Rattle.grammar_model.specs.Machine as machine
use Rattle.grammar_model.specs.Machine.{frame, node_of, put, first_of, opened, start_at}
use Rattle.recovery_model.specs.Steps.{missing_at}
use Rattle.parse_frames.specs.Frames as frames
use Rattle.parse_frames.specs.Frames.{Stack, started, with_token, with_missing, begun, closed, grown, onto, heights_in}
use Rattle.parse_frames.proofs.Parts.{told_heights_onto}
use Rattle.grammar_model.specs.Named.{named, named_parts, named_part}
use Rattle.parse_frames.specs.Named.{named_done, named_frame, named_stack, IsNamed, openings}

-- a token is no operand
last_taken : (w : What) (t : Tok) → last_in w (taken t) ≡ no_operand
last_taken nothing t = refl
last_taken (token ks) t = refl
last_taken (operand s n) t = refl

-- parts that are put on others are named as they are
onto_named : (name : ℕ → Row) (ds : List (ℕ × Part)) (f : Forest) → named_parts name (machine.onto ds f) ≡ onto (named_done name ds) (named_parts name f)
onto_named name [] f = refl
onto_named name (d ∷ ds) f = onto_named name ds (part d.0 d.1 f)

-- the named form of the machine's node of a frame is the node of the frame's named form
pub node_named : (name : ℕ → Row) (f : machine.Frame) → named name (node_of f) ≡ frames.node_of (name f.number) (named_frame name f)
node_named name f = ap (node_over (name f.number)) (onto_named name f.done no_parts)

-- a text without tokens
pub start_named : (G : Table) (name : ℕ → Row) → IsNamed G name (frame G.root 0 [] ∷ []) 0 (started G.root)
start_named G name = refl

-- a token that stands at a spot
pub token_named : (G : Table) (name : ℕ → Row) (f : machine.Frame) (S : machine.Stack) (at p : ℕ) (t : Tok) (ks : List ℕ) (s : Stack)
    → G.what f.number p ≡ token ks → IsNamed G name (f ∷ S) at s → IsNamed G name (start_at G f p t S) t.end (with_token p t s)
token_named G name f S at p t ks s e h = rw e (rw (← h) (rw e refl))

-- a missing token
pub missing_token_named : (G : Table) (name : ℕ → Row) (f : machine.Frame) (S : machine.Stack) (at p : ℕ) (ks : List ℕ) (s : Stack)
    → G.what f.number p ≡ token ks → IsNamed G name (f ∷ S) at s → IsNamed G name (missing_at f p at ∷ S) at (with_missing p no_operand s)
missing_token_named G name f S at p ks s e h = rw (← h) (rw e refl)

-- a missing operand
pub missing_operand_named : (G : Table) (name : ℕ → Row) (f : machine.Frame) (S : machine.Stack) (at p sort level : ℕ) (s : Stack)
    → G.what f.number p ≡ operand sort level → IsNamed G name (f ∷ S) at s → IsNamed G name (missing_at f p at ∷ S) at (with_missing p hole s)
missing_operand_named G name f S at p sort level s e h = rw (← h) (rw e refl)

-- a closed frame is the operand for which the frame below it waits
pub put_named : (G : Table) (name : ℕ → Row) (f g : machine.Frame) (S : machine.Stack) (at sort level : ℕ) (s : Stack)
    → G.what g.number g.at ≡ operand sort level → IsNamed G name (f ∷ g ∷ S) at s
    → closed (name f.number) s ≡ Some (named_stack G name (put f g) S at)
put_named G name f g S at sort level s e h = rw (← h) (rw e (rw (node_named name f) refl))

-- the rows that a token begins, in the frame that waits for the first of them
opened_named : (G : Table) (name : ℕ → Row) (r : ℕ) (rs : List ℕ) (f : machine.Frame) (S : machine.Stack) (at p : ℕ) (t : Tok)
    → IsNamed G name (opened G (r ∷ rs) t (frame f.number p f.done ∷ S)) t.end (begun p (openings G (r ∷ rs)) t (named_stack G name f S at))
opened_named G name r [] f S at p t = rw (last_taken (G.what r (first_of G r)) t) refl
opened_named G name r (q ∷ rs) f S at p t = opened_named G name q rs (frame r (first_of G r) []) (frame f.number p f.done ∷ S) at (first_of G r) t

-- a token that begins the operand at a spot
pub operand_named : (G : Table) (name : ℕ → Row) (f : machine.Frame) (S : machine.Stack) (at p sort level : ℕ) (t : Tok) (r : ℕ) (rs : List ℕ) (s : Stack)
    → G.what f.number p ≡ operand sort level → G.chain sort (key_of t) ≡ r ∷ rs → IsNamed G name (f ∷ S) at s
    → IsNamed G name (start_at G f p t S) t.end (begun p (openings G (r ∷ rs)) t s)
operand_named G name f S at p sort level t r rs s e k h = rw (← h) (rw e (rw k (opened_named G name r rs f S at p t)))

-- the newest operand of a frame is the left operand of a row
pub grown_named : (G : Table) (name : ℕ → Row) (g : ℕ) (f : machine.Frame) (d : ℕ × Part) (ds : List (ℕ × Part)) (S : machine.Stack) (at : ℕ) (s : Stack)
    → G.what g 0 ≡ nothing → f.done ≡ d ∷ ds → IsNamed G name (f ∷ S) at s
    → grown g s ≡ Some (named_stack G name (frame g 0 ((0, d.1) ∷ [])) (frame f.number f.at ds ∷ S) at)
grown_named G name g f d ds S at s e k h = rw (← h) (rw e (rw k refl))

-- a named tree, parts and part tell the heights that they have
mutual
  pub tree_height_named : (name : ℕ → Row) (T : Tree) → (extent_of (named name T)).height ≡ height_of T
  tree_height_named name (node r f) = let e : told_heights (named_parts name f) ≡ forest_height f = forest_height_named name f in omega arith

  pub forest_height_named : (name : ℕ → Row) (f : Forest) → told_heights (named_parts name f) ≡ forest_height f
  forest_height_named name no_parts = refl
  forest_height_named name (part p c f) =
      let d : told_height (named_part name c) ≡ part_height c = part_height_named name c in
      let e : told_heights (named_parts name f) ≡ forest_height f = forest_height_named name f in omega arith

  pub part_height_named : (name : ℕ → Row) (c : Part) → told_height (named_part name c) ≡ part_height c
  part_height_named name (taken t) = refl
  part_height_named name (inner T) = tree_height_named name T
  part_height_named name (missing p) = refl

-- the node of a frame is one higher than the highest of its parts
pub node_height_named : (name : ℕ → Row) (f : machine.Frame) → height_of (node_of f) ≡ heights_in (named_done name f.done) + 1
node_height_named name f =
    let e : (extent_of (named name (node_of f))).height ≡ height_of (node_of f) = tree_height_named name (node_of f) in
    let d : (extent_of (named name (node_of f))).height ≡ told_heights (onto (named_done name f.done) plain.no_parts) + 1 = ap (λ T. (extent_of T).height) (node_named name f) in
    let h : told_heights (onto (named_done name f.done) plain.no_parts) ≡ heights_in (named_done name f.done) = told_heights_onto (named_done name f.done) in
    omega arith

-- as many frames wait as the machine has below its innermost one
pub waiting_named : (name : ℕ → Row) (S : machine.Stack) → length (map (named_frame name) S) ≡ length S
waiting_named name [] = refl
waiting_named name (f ∷ S) = ap suc (waiting_named name S)
