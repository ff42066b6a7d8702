-- The end of a text in the code is that of the definition.
use Rattle.std.proofs.Common.{◌≡◌, ℕ, zero, suc, ◌≤◌, List, [], ◌∷◌, ◌++◌, drop, map, reverse, Option, Some, None, refl, sym, ◌∙◌, ap, subst}
use Rattle.std.proofs.lemmas.List.{map-append}
use Rattle.token_model.specs.Kinds.{Tok}
use Rattle.grammar_model.specs.Machine.{Frame, Stack}
use Rattle.grammar_model.specs.Named.{named, items_of}
use Rattle.recovery_model.specs.Steps as rules
use Rattle.recovery_model.specs.Steps.{Fault, last_fault}
use Rattle.grammar_model.specs.Ocaml.{Text, grammar, row_name}
use Rattle.recovery_model.specs.Items.{State, Mark, sound, held, marked, Item, Parser}
use Rattle.recovery_model.specs.Recovery.{go_back, ended, ended_by, close_mark, close_item, close}
use Rattle.std.specs.declared.rc.Rc.{Rc}
use Rattle.std.specs.declared.alloc.Global.{Global}
use Rattle.syntax_tree.specs.View.{trees_of}
use Rattle.syntax_rows.specs.View.{text_of}
use Rattle.parse_frames.specs.Named.{IsNamed}
use Rattle.parse_frames.specs.Stacks.{stack_view}
use Rattle.frame_steps.specs.Told.{told}
use Rattle.frame_steps.specs.View.{fault_of, text_table, Stands}
use Rattle.frame_steps.specs.declared.stack.Stack.{Stack as Rows}
use Rattle.frame_steps.specs.declared.stack.Whole.{Whole}
use Rattle.frame_steps.specs.declared.stack.SyntaxFault.{SyntaxFault}
use Rattle.frame_parser.specs.Shown.{tokens_view, IsReached, KeepsFew, ShowsEnd, ShowsItem, ShowsMark, ShowsRows, ShowsWhole}
use Rattle.frame_parser.specs.declared.stack.Closed.{Closed}
use Rattle.frame_parser.specs.declared.stack.Item.{Item as CodeItem}
use Rattle.frame_parser.specs.declared.stack.Kept.{Kept}
use Rattle.frame_parser.specs.declared.stack.Mark.TheVariants.{Sound, Held, Marked}
use Rattle.frame_parser.proofs.Rows.{opened}

-- the tree of rows is that of the frames
pub whole_shows : (from : ℕ) (text : Text) (s : State) (n : ℕ) (rows : Rows) (w : Whole) → ShowsRows text s rows → IsReached text n s → n ≤ 1048576
    → ((f : Frame) (S : Stack) (at : ℕ) → Stands rows.text (f ∷ S) at (stack_view rows.frames) → trees_of w.tree ≡ drop from (items_of (named row_name (rules.closed_up (text_table rows.text) f S at).0)))
    → ((f : Frame) (S : Stack) (at : ℕ) → Stands rows.text (f ∷ S) at (stack_view rows.frames) → w.holes ≡ (rules.closed_up (text_table rows.text) f S at).1)
    → ShowsWhole from text s w
whole_shows from text s n rows w shows reached few tree holes =
    let o = opened text s n rows shows reached few in
    let t : trees_of w.tree ≡ drop from (items_of (named row_name (rules.close_up (text_table rows.text) s.stack s.place).0))
    = subst (λ S. trees_of w.tree ≡ drop from (items_of (named row_name (rules.close_up (text_table rows.text) S s.place).0))) (sym o.is) (tree o.top o.below s.place o.stands) in
    let h : w.holes ≡ (rules.close_up (text_table rows.text) s.stack s.place).1 = subst (λ S. w.holes ≡ (rules.close_up (text_table rows.text) S s.place).1) (sym o.is) (holes o.top o.below s.place o.stands) in
    record {
      tree = subst (λ text. trees_of w.tree ≡ drop from (items_of (named row_name (rules.close_up (grammar text) s.stack s.place).0))) shows.of_text t;
      holes = subst (λ text. w.holes ≡ (rules.close_up (grammar text) s.stack s.place).1) shows.of_text h;
    }

-- a tree with the faults before it
pub end_shows : (from : ℕ) (text : Text) (s : State) (w : Whole) (r : Closed) (place : ℕ) (before : List SyntaxFault) (fs : List Fault) → ShowsWhole from text s w → trees_of r.tree ≡ trees_of w.tree
    → map fault_of r.faults.items ≡ map fault_of before ++ map told (last_fault w.holes place) → place ≡ s.place → map fault_of before ≡ map told fs → ShowsEnd from text (ended (grammar text) s fs) r
end_shows from text s w r place before fs whole tree faults at same =
    let n = (rules.close_up (grammar text) s.stack s.place).1 in
    record {
      tree = tree ∙ whole.tree;
      faults = faults ∙ ap (λ p. map fault_of before ++ map told (last_fault w.holes p)) at ∙ ap (λ h. map fault_of before ++ map told (last_fault h s.place)) whole.holes
          ∙ ap (λ xs. xs ++ map told (last_fault n s.place)) same ∙ sym (map-append told fs (last_fault n s.place));
    }

-- the end where no part is missing, or no item is open
pub close_zero : (from : ℕ) (text : Text) (p : Parser) (r : Closed) → (rules.close_up (grammar text) p.state.stack p.state.place).1 ≡ 0 → ShowsEnd from text (ended (grammar text) p.state []) r → ShowsEnd from text (close (grammar text) p) r
unfolding close
close_zero from text p r e go = subst (λ n. ShowsEnd from text (close_item (grammar text) p.state n p.item) r) (sym e) go

pub close_none : (from : ℕ) (text : Text) (p : Parser) (r : Closed) → ShowsItem text p.item None → ShowsEnd from text (ended (grammar text) p.state []) r → ShowsEnd from text (close (grammar text) p) r
unfolding close
close_none from text p r shows go = by (rules.close_up (grammar text) p.state.stack p.state.place).1 p.item shows
  where
    by : (n : ℕ) (o : Option Item) → ShowsItem text o None → ShowsEnd from text (close_item (grammar text) p.state n o) r
    by zero o h = go
    by (suc n) None h = go
    by (suc n) (Some i) h = absurd h

-- the end in an open item
pub close_some : (from : ℕ) (text : Text) (p : Parser) (j : CodeItem) (r : Closed) → ((rules.close_up (grammar text) p.state.stack p.state.place).1 ≡ 0 → ⊥) → ShowsItem text p.item (Some j)
    → ((i : Item) → p.item ≡ Some i → ShowsItem text (Some i) (Some j) → ShowsEnd from text (close_mark (grammar text) p.state i.col i.mark) r) → ShowsEnd from text (close (grammar text) p) r
unfolding close
close_some from text p j r some shows go = by (rules.close_up (grammar text) p.state.stack p.state.place).1 some p.item refl shows
  where
    by : (n : ℕ) → (n ≡ 0 → ⊥) → (o : Option Item) → p.item ≡ o → ShowsItem text o (Some j) → ShowsEnd from text (close_item (grammar text) p.state n o) r
    by zero some o e h = absurd (some refl)
    by (suc n) some None e h = absurd h
    by (suc n) some (Some i) e h = go i e h

-- what is known of it decides
pub mark_sound : (from : ℕ) (text : Text) (s : State) (col : ℕ) (m : Mark) (r : Closed) → ShowsMark text m Sound → ShowsEnd from text (ended (grammar text) s []) r → ShowsEnd from text (close_mark (grammar text) s col m) r
mark_sound from text s col sound r h go = go
mark_sound from text s col (held q ts) r h go = absurd h
mark_sound from text s col marked r h go = absurd h

pub mark_marked : (from : ℕ) (text : Text) (s : State) (col : ℕ) (m : Mark) (r : Closed) → ShowsMark text m Marked → ShowsEnd from text (ended (grammar text) s []) r → ShowsEnd from text (close_mark (grammar text) s col m) r
mark_marked from text s col marked r h go = go
mark_marked from text s col sound r h go = absurd h
mark_marked from text s col (held q ts) r h go = absurd h

-- in one with cut tokens it goes back
pub mark_held : (from : ℕ) (text : Text) (s : State) (col : ℕ) (m : Mark) (before : Rows) (since : Option (Rc Kept Global)) (r : Closed) → ShowsMark text m (Held before since) → KeepsFew text 1048576 m
    → ((q : State) (ts : List Tok) → ShowsRows text q before → reverse (tokens_view since) ≡ ts → KeepsFew text 1048576 (held q ts) → ShowsEnd from text (ended_by (grammar text) (go_back (grammar text) col q ts)) r)
    → ShowsEnd from text (close_mark (grammar text) s col m) r
mark_held from text s col (held q ts) before since r shows few go = go q ts shows.0 shows.1 few
mark_held from text s col sound before since r shows few go = absurd shows
mark_held from text s col marked before since r shows few go = absurd shows

-- rows with the same frames stand for the same
pub rows_shared : (text : Text) (s : State) (a b : Rows) → b.text ≡ a.text → stack_view b.frames ≡ stack_view a.frames → ShowsRows text s a → ShowsRows text s b
rows_shared text s a b same frames h = record { of_text = ap text_of same ∙ h.of_text; named = subst (λ v. IsNamed (grammar text) row_name s.stack s.place v) (sym frames) h.named }

-- the end in an item's column
pub at_column : (from : ℕ) (text : Text) (s : State) (i : Item) (j : CodeItem) (r : Closed) → ShowsItem text (Some i) (Some j) → ShowsEnd from text (close_mark (grammar text) s j.col i.mark) r → ShowsEnd from text (close_mark (grammar text) s i.col i.mark) r
at_column from text s i j r h e = subst (λ c. ShowsEnd from text (close_mark (grammar text) s c i.mark) r) h.0 e
