-- All frames are closed.
use Rattle.std.proofs.Common.{◌≡◌, ℕ, ◌+◌, ◌-◌, ◌^◌, ◌<◌, [], ◌∷◌, length, refl, sym, ◌∙◌, ap, subst, arith}
use Rattle.grammar_model.specs.Tables.{Table}
use Rattle.grammar_model.specs.Machine.{Frame, Stack, node_of, put}
use Rattle.recovery_model.specs.Steps.{filled, most_parts, closed_up}
use Rattle.grammar_model.specs.Ocaml.{row_name}
use Rattle.syntax_rows.specs.declared.ocaml.Text.{Text}
use Rattle.parse_frames.specs.Frames as frames
use Rattle.parse_frames.specs.Frames.{nodes_in}
use Rattle.grammar_model.specs.Named.{named}
use Rattle.parse_frames.specs.Named.{IsNamed}
use Rattle.parse_frames.specs.Stacks.{stack_view}
use Rattle.parse_frames.proofs.Named.{node_named}
use Rattle.frame_steps.specs.Course.{out, out_holes}
use Rattle.frame_steps.specs.View.{text_table, Stands, Standing, IsWhole}
use Rattle.frame_steps.specs.declared.build.Filled.{Filled}
use Rattle.frame_steps.proofs.Named.{stood, below_named}
use Rattle.frame_steps.proofs.Orders.{filled_nodes}
use Rattle.frame_steps.proofs.Outermost.{nodes_few}

-- all frames are closed one by one
closed_out : (G : Table) (at : ℕ) (S : Stack) (f : Frame) → ((out (length S) G f S at).1 ≡ []) × ((closed_up G f S at).0 ≡ node_of (filled most_parts G (out (length S) G f S at).0 at).0)
    × ((closed_up G f S at).1 ≡ out_holes (length S) G f S at + (filled most_parts G (out (length S) G f S at).0 at).1)
closed_out G at [] f = (refl, refl, omega arith)
closed_out G at (g ∷ S) f =
    let (a, b, c) = closed_out G at S (put (filled most_parts G f at).0 g) in
    (a, b, omega arith)

-- the outermost frame, when all others are closed
pub whole_named : (text : Text) (f : Frame) (S : Stack) (at c n k : ℕ) (v w : frames.Stack) (r : Filled) → Stands text (f ∷ S) at v → c ≡ length v.below
    → ((f : Frame) (S : Stack) (at : ℕ) → Stands text (f ∷ S) at v → Stands text ((out c (text_table text) f S at).0 ∷ (out c (text_table text) f S at).1) at w × (n ≡ out_holes c (text_table text) f S at))
    → ((f : Frame) (S : Stack) (at : ℕ) → IsNamed (text_table text) row_name (f ∷ S) at w → IsNamed (text_table text) row_name ((filled most_parts (text_table text) f at).0 ∷ S) at (stack_view r.frames) × (k ≡ (filled most_parts (text_table text) f at).1))
    → r.holes ≡ n + k → IsWhole text f S at r
whole_named text f S at c n k v w r st len a b holes =
    let G = text_table text in
    let e : c ≡ length S = len ∙ below_named text f S at v st in
    let (q, h) = subst (λ c. Stands text ((out c G f S at).0 ∷ (out c G f S at).1) at w × (n ≡ out_holes c G f S at)) e (a f S at st) in
    let (x, y, z) = closed_out G at S f in
    let o = out (length S) G f S at in
    let (i, j) = b o.0 o.1 at q.named in
    let F = (filled most_parts G o.0 at).0 in
    record {
      node = ap (λ v. frames.node_of (row_name v.top.number) v.top) (sym i) ∙ sym (node_named row_name F) ∙ ap (named row_name) (sym y);
      holes = omega arith;
    }

-- the frame that is filled when all others are closed has few nodes
pub whole_few : (text : Text) (c n k : ℕ) (v w x : frames.Stack) → Standing text v
    → ((f : Frame) (S : Stack) (at : ℕ) → Stands text (f ∷ S) at v → Stands text ((out c (text_table text) f S at).0 ∷ (out c (text_table text) f S at).1) at w × (n ≡ out_holes c (text_table text) f S at))
    → ((f : Frame) (S : Stack) (at : ℕ) → IsNamed (text_table text) row_name (f ∷ S) at w → IsNamed (text_table text) row_name ((filled most_parts (text_table text) f at).0 ∷ S) at x × (k ≡ (filled most_parts (text_table text) f at).1))
    → length (nodes_in x.top.done) < 2 ^ 32 - 1
whole_few text c n k v w x s a b =
    let q = stood text v s in
    let o = out c (text_table text) q.top q.below q.at in
    let (p, h) = a q.top q.below q.at q.stands in
    let (i, j) = b o.0 o.1 q.at p.named in
    let few = nodes_few (filled most_parts (text_table text) o.0 q.at).0.done in
    let more = filled_nodes most_parts (text_table text) o.0 q.at in
    let light = p.order.light in
    subst (λ (y : frames.Stack). length (nodes_in y.top.done) < 2 ^ 32 - 1) i (omega arith)
