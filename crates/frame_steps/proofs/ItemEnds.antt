-- An item is closed as its frames are.
use Rattle.std.proofs.Common.{◌≡◌, ℕ, ◌∷◌, sym, ◌∙◌, ap, subst}
use Rattle.grammar_model.specs.Machine.{Frame, Stack}
use Rattle.grammar_model.specs.Ocaml.{row_name}
use Rattle.syntax_rows.specs.declared.ocaml.Text.{Text}
use Rattle.parse_frames.specs.Frames as frames
use Rattle.parse_frames.specs.Named.{IsNamed}
use Rattle.parse_frames.specs.Stacks.{stack_view}
use Rattle.frame_steps.specs.Course.{bare, out, out_holes}
use Rattle.frame_steps.specs.Reached.{to_close, EndsItem}
use Rattle.frame_steps.specs.View.{text_table, Stands}
use Rattle.frame_steps.specs.declared.items.Ended.{Ended}
use Rattle.frame_steps.proofs.ItemFrames.{closed_is, close_named}

pub ends_item : (text : Text) (f : Frame) (S : Stack) (at n holes : ℕ) (v w : frames.Stack) (r : Ended) → Stands text (f ∷ S) at v → n ≡ to_close v.top.number (bare v.below)
    → Stands text ((out n (text_table text) f S at).0 ∷ (out n (text_table text) f S at).1) at w × (holes ≡ out_holes n (text_table text) f S at)
    → r.stack.text ≡ text → stack_view r.stack.frames ≡ w → r.holes ≡ holes → EndsItem text f S at r
ends_item text f S at n holes v w r st count closed same frames missed =
    let G = text_table text in
    let e : n ≡ to_close f.number S = count ∙ ap (λ v. to_close v.top.number (bare v.below)) (sym st.named) ∙ close_named row_name S f.number in
    let k = to_close f.number S in
    let (stands, sum) = subst (λ n. Stands text ((out n G f S at).0 ∷ (out n G f S at).1) at w × (holes ≡ out_holes n G f S at)) e closed in
    let c = closed_is G at S f in
    record {
      same = same;
      named = subst (λ x. IsNamed G row_name x.0 at (stack_view r.stack.frames)) (sym c) (stands.named ∙ sym frames);
      holes = missed ∙ sum ∙ sym (ap (λ x. x.1) c);
    }
