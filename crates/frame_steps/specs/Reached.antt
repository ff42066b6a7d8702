-- The frames that steps lead to, and how many frames are closed with an item.
use Rattle.std.specs.Prelude.{◌≡◌, ℕ, suc, nat_eq, [], ◌∷◌, if◌then◌else◌}
use Rattle.token_model.specs.Kinds.{Tok}
use Rattle.grammar_model.specs.Machine.{Frame, frame, Stack}
use Rattle.recovery_model.specs.Steps.{step}
use Rattle.grammar_model.specs.Ocaml.{Text, grammar, row_name}
use Rattle.recovery_model.specs.Items.{item_row, closed_item, closed_out}
use Rattle.parse_frames.specs.Named.{IsNamed}
use Rattle.parse_frames.specs.Stacks.{stack_view}
use Rattle.frame_steps.specs.View.{text_table}
use Rattle.frame_steps.specs.declared.items.Ended.{Ended}
use Rattle.syntax_rows.specs.declared.ocaml.Text as code

-- frames, behind a token that ends at a place, that at most so many tokens lead to, with items closed among them
pub data Reached (text : Text) : ℕ → Stack → ℕ → Type 0 where
  begun : Reached text 0 (frame (grammar text).root 0 [] ∷ []) 0
  taken : {n : ℕ} {S : Stack} {place : ℕ} (t : Tok) → Reached text n S place → Reached text (suc n) (step (grammar text) S place t).stack (step (grammar text) S place t).place
  longer : {n : ℕ} {S : Stack} {place : ℕ} → Reached text n S place → Reached text (suc n) S place
  ended : {n : ℕ} {S : Stack} {place : ℕ} → Reached text n S place → Reached text n (closed_item (grammar text) S place).0 place

-- how many frames there are from the innermost, of this row, out to the item's; where there is none, all but the outermost
abbrev pub to_close : ℕ → Stack → ℕ
to_close r [] = 0
to_close r (g ∷ S) = if nat_eq r item_row then 1 else suc (to_close g.number S)

-- the frames of an item are closed
pub record EndsItem (text : code.Text) (f : Frame) (S : Stack) (at : ℕ) (r : Ended) : Type 0 where
  pub same : r.stack.text ≡ text
  pub named : IsNamed (text_table text) row_name (closed_out (text_table text) f S at).0 at (stack_view r.stack.frames)
  pub holes : r.holes ≡ (closed_out (text_table text) f S at).1
