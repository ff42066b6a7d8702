-- A step of the code is one of the definition.
use Rattle.std.proofs.Common.{◌≡◌, ℕ, ◌<◌, [], ◌∷◌, map, Option, Some, None, option_map, refl, sym, ◌∙◌, ap, subst, arith}
use Rattle.token_model.specs.Kinds.{Tok}
use Rattle.grammar_model.specs.Machine.{Frame, Stack}
use Rattle.recovery_model.specs.Steps as rules
use Rattle.recovery_model.specs.Steps.{Fault, some_fault}
use Rattle.grammar_model.specs.Ocaml.{Text, grammar}
use Rattle.recovery_model.specs.Items.{State, state, Item, item_behind, closed_item, end_fault, cut_step}
use Rattle.recovery_model.specs.Recovery.{item_after, go_on}
use Rattle.parse_frames.specs.Stacks.{stack_view}
use Rattle.frame_steps.specs.Told.{Told, told, listed}
use Rattle.frame_steps.specs.Reached.{ended, EndsItem}
use Rattle.frame_steps.specs.View.{fault_of, text_table, Stands, StepsTo, Standing}
use Rattle.frame_steps.specs.declared.items.Ended.{Ended}
use Rattle.frame_steps.specs.declared.stack.Stack.{Stack as Rows}
use Rattle.frame_steps.specs.declared.stack.Stepped.{Stepped as Put}
use Rattle.frame_steps.specs.declared.stack.SyntaxFault.{SyntaxFault}
use Rattle.frame_parser.specs.Shown.{IsReached, ShowsItem, ShowsPut, ShowsRows, ShowsStep}
use Rattle.frame_parser.specs.declared.stack.Stepped.{Stepped as CodeStepped}
use Rattle.frame_parser.proofs.Rows.{put_shows, ended_shows, place_shows, standing}

-- a fault that may be none, as a list
some_told : (o : Option Fault) → map told (some_fault o []) ≡ listed (option_map told o)
some_told None = refl
some_told (Some f) = refl

-- a token that neither cuts nor goes back
pub go_on_shows : (text : Text) (x : rules.Stepped) (i : Option Item) (t : Tok) (q : Put) (r : CodeStepped) → ShowsPut text x q → r.stack.rows ≡ q.stack → ShowsItem text (item_after x.stack t x.fault i) r.stack.item
    → map fault_of r.faults.items ≡ listed (option_map fault_of q.fault) → ShowsStep text (go_on i t x) r
go_on_shows text x i t q r put rows shows tells = record {
  stack = record { rows = subst (ShowsRows text (state x.stack x.place)) (sym rows) put.rows; item = shows };
  faults = tells ∙ ap listed put.fault ∙ sym (some_told x.fault);
}

-- an item that ends, and the token behind it
pub cut_shows : (text : Text) (s : State) (n : ℕ) (t : Tok) (rows : Rows) (e : Ended) (q : Put) (place : ℕ) (first : SyntaxFault) (r : CodeStepped) → ShowsRows text s rows → IsReached text n s → n < 1048576
    → ((f : Frame) (S : Stack) (at : ℕ) → Stands rows.text (f ∷ S) at (stack_view rows.frames) → EndsItem rows.text f S at e)
    → ((f : Frame) (S : Stack) (at : ℕ) → Stands e.stack.text (f ∷ S) at (stack_view e.stack.frames) → StepsTo e.stack.text (rules.step (text_table e.stack.text) (f ∷ S) at t) q)
    → place ≡ (stack_view rows.frames).place → fault_of first ≡ told (end_fault place e.holes) → map fault_of r.faults.items ≡ fault_of first ∷ listed (option_map fault_of q.fault)
    → r.stack.rows ≡ q.stack → ((x : rules.Stepped) → ShowsPut text x q → ShowsItem text (item_behind x.stack t None) r.stack.item)
    → ShowsStep text (cut_step (grammar text) s t) r
cut_shows text s n t rows e q place first r shows reached few end put at fault tells same item =
    let c = closed_item (grammar text) s.stack s.place in
    let x = rules.step (grammar text) c.0 s.place t in
    let (closed, holes) = ended_shows text s n rows e shows reached (omega arith) end in
    let next = put_shows text (state c.0 s.place) n e.stack t q closed (ended reached) (omega arith) put in
    record {
      stack = record { rows = subst (ShowsRows text (state x.stack x.place)) (sym same) next.rows; item = item x next };
      faults = tells ∙ ap (λ f. f ∷ listed (option_map fault_of q.fault)) (fault ∙ ap (λ p. told_end p e.holes) (at ∙ place_shows text s rows shows) ∙ ap (told_end s.place) holes)
          ∙ ap (λ fs. told_end s.place c.1 ∷ fs) (ap listed next.fault ∙ sym (some_told x.fault));
    }
  where
    told_end : (p h : ℕ) → Told
    told_end p h = told (end_fault p h)

-- rows whose item is closed are in order
pub ended_standing : (text : Text) (s : State) (n : ℕ) (rows : Rows) (e : Ended) → ShowsRows text s rows → IsReached text n s → n < 1048576
    → ((f : Frame) (S : Stack) (at : ℕ) → Stands rows.text (f ∷ S) at (stack_view rows.frames) → EndsItem rows.text f S at e) → Standing e.stack.text (stack_view e.stack.frames)
ended_standing text s n rows e shows reached few end =
    let (closed, holes) = ended_shows text s n rows e shows reached (omega arith) end in
    standing text (state (closed_item (grammar text) s.stack s.place).0 s.place) n e.stack closed (ended reached) (omega arith)
