-- Rows that stand for frames to which tokens lead are in order, and a step on them is one on the frames.
use Rattle.std.proofs.Common.{◌≡◌, ℕ, ◌≤◌, [], ◌∷◌, option_map, refl, sym, ◌∙◌, ap, subst}
use Rattle.token_model.specs.Kinds.{Tok}
use Rattle.grammar_model.specs.Machine.{Frame, Stack}
use Rattle.recovery_model.specs.Steps.{step}
use Rattle.grammar_model.specs.Ocaml.{Text, grammar, row_name}
use Rattle.recovery_model.specs.Items.{State, state, closed_item}
use Rattle.syntax_rows.specs.View.{text_of}
use Rattle.parse_frames.specs.Named.{IsNamed}
use Rattle.parse_frames.specs.Stacks.{stack_view}
use Rattle.frame_steps.specs.Order.{InOrder}
use Rattle.frame_steps.specs.Told.{told}
use Rattle.frame_steps.specs.Reached.{EndsItem}
use Rattle.frame_steps.specs.View.{fault_of, text_table, Stands, Standing, StepsTo}
use Rattle.frame_steps.specs.declared.items.Ended.{Ended}
use Rattle.frame_steps.specs.declared.stack.Stack.{Stack as Rows}
use Rattle.frame_steps.specs.declared.stack.Stepped.{Stepped as Put}
use Rattle.frame_steps.proofs.Runs.{reached_order}
use Rattle.frame_parser.specs.Shown.{IsReached, RowsReady, ShowsPut, ShowsRows}

-- the frames for which rows stand, in order
pub record Opened (s : State) (r : Rows) : Type 0 where
  pub top : Frame
  pub below : Stack
  pub is : s.stack ≡ top ∷ below
  pub stands : Stands r.text (top ∷ below) s.place (stack_view r.frames)

-- rows name the frames of their own text
own : (text : Text) (s : State) (r : Rows) → ShowsRows text s r → IsNamed (text_table r.text) row_name s.stack s.place (stack_view r.frames)
own text s r h = subst (λ text. IsNamed (grammar text) row_name s.stack s.place (stack_view r.frames)) (sym h.of_text) h.named

pub opened : (text : Text) (s : State) (n : ℕ) (r : Rows) → ShowsRows text s r → IsReached text n s → n ≤ 1048576 → Opened s r
opened text s n r h reached few = by s.stack refl (own text s r h) (subst (λ text. InOrder (grammar text) s.stack) (sym h.of_text) (reached_order text n s.stack s.place reached few))
  where
    by : (S : Stack) → s.stack ≡ S → IsNamed (text_table r.text) row_name S s.place (stack_view r.frames) → InOrder (text_table r.text) s.stack → Opened s r
    by [] e n o = absurd n
    by (f ∷ S) e n o = record { top = f; below = S; is = e; stands = record { named = n; order = subst (InOrder (text_table r.text)) e o } }

-- rows stand for frames in order
pub standing : (text : Text) (s : State) (n : ℕ) (r : Rows) → ShowsRows text s r → IsReached text n s → n ≤ 1048576 → Standing r.text (stack_view r.frames)
standing text s n r h reached few = let o = opened text s n r h reached few in (o.top ∷ o.below, s.place, o.stands)

pub ready_standing : (n : ℕ) (r : Rows) → RowsReady n r → n ≤ 1048576 → Standing r.text (stack_view r.frames)
ready_standing n r h few = standing h.text h.state n r h.shows h.reached few

-- a token that is put on rows is put on the frames
pub put_shows : (text : Text) (s : State) (n : ℕ) (r : Rows) (t : Tok) (q : Put) → ShowsRows text s r → IsReached text n s → n ≤ 1048576
    → ((f : Frame) (S : Stack) (at : ℕ) → Stands r.text (f ∷ S) at (stack_view r.frames) → StepsTo r.text (step (text_table r.text) (f ∷ S) at t) q)
    → ShowsPut text (step (grammar text) s.stack s.place t) q
put_shows text s n r t q h reached few put =
    let o = opened text s n r h reached few in
    let x : StepsTo r.text (step (text_table r.text) s.stack s.place t) q = subst (λ S. StepsTo r.text (step (text_table r.text) S s.place t) q) (sym o.is) (put o.top o.below s.place o.stands) in
    record {
      rows = record {
        of_text = ap text_of x.same ∙ h.of_text;
        named = subst (λ text. IsNamed (grammar text) row_name (step (grammar text) s.stack s.place t).stack (step (grammar text) s.stack s.place t).place (stack_view q.stack.frames)) h.of_text x.named;
      };
      fault = subst (λ text. option_map fault_of q.fault ≡ option_map told (step (grammar text) s.stack s.place t).fault) h.of_text x.fault;
    }

-- rows whose item is closed stand for the frames
pub ended_shows : (text : Text) (s : State) (n : ℕ) (r : Rows) (q : Ended) → ShowsRows text s r → IsReached text n s → n ≤ 1048576
    → ((f : Frame) (S : Stack) (at : ℕ) → Stands r.text (f ∷ S) at (stack_view r.frames) → EndsItem r.text f S at q)
    → ShowsRows text (state (closed_item (grammar text) s.stack s.place).0 s.place) q.stack × (q.holes ≡ (closed_item (grammar text) s.stack s.place).1)
ended_shows text s n r q h reached few end =
    let o = opened text s n r h reached few in
    let x = end o.top o.below s.place o.stands in
    let named : IsNamed (text_table r.text) row_name (closed_item (text_table r.text) s.stack s.place).0 s.place (stack_view q.stack.frames)
    = subst (λ S. IsNamed (text_table r.text) row_name (closed_item (text_table r.text) S s.place).0 s.place (stack_view q.stack.frames)) (sym o.is) x.named in
    let holes : q.holes ≡ (closed_item (text_table r.text) s.stack s.place).1 = subst (λ S. q.holes ≡ (closed_item (text_table r.text) S s.place).1) (sym o.is) x.holes in (
      record { of_text = ap text_of x.same ∙ h.of_text; named = subst (λ text. IsNamed (grammar text) row_name (closed_item (grammar text) s.stack s.place).0 s.place (stack_view q.stack.frames)) h.of_text named },
      subst (λ text. q.holes ≡ (closed_item (grammar text) s.stack s.place).1) h.of_text holes,
    )

-- the place of rows is that of the frames
pub place_shows : (text : Text) (s : State) (r : Rows) → ShowsRows text s r → (stack_view r.frames).place ≡ s.place
place_shows text s r h = by s.stack h.named
  where
    by : (S : Stack) → IsNamed (grammar text) row_name S s.place (stack_view r.frames) → (stack_view r.frames).place ≡ s.place
    by [] n = absurd n
    by (f ∷ S) n = ap (λ v. v.place) (sym n)
