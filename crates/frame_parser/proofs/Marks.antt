-- What the code knows of an item is what the definition knows of it.
use Rattle.std.proofs.Common.{◌≡◌, Bool, true, false, [], ◌∷◌, Option, Some, None, option_map, refl, sym, ◌∙◌, ap, subst, if◌then◌else◌}
use Rattle.token_model.specs.Kinds.{Tok}
use Rattle.grammar_model.specs.Machine.{Stack}
use Rattle.recovery_model.specs.Steps as rules
use Rattle.recovery_model.specs.Steps.{Fault}
use Rattle.grammar_model.specs.Ocaml.{Text, grammar, row_name}
use Rattle.recovery_model.specs.Items.{State, state, sound, Item, item, has_item, begins_item, is_local, item_behind, begins_local}
use Rattle.recovery_model.specs.Recovery.{faulted, item_after}
use Rattle.parse_frames.specs.Frames as frames
use Rattle.parse_frames.specs.Named.{IsNamed}
use Rattle.parse_frames.specs.Stacks.{stack_view}
use Rattle.frame_steps.specs.Course.{bare}
use Rattle.frame_steps.specs.Told.{Told, added, skipped, too_deep, cut, told}
use Rattle.frame_steps.specs.View.{fault_of}
use Rattle.frame_steps.specs.declared.stack.Stack.{Stack as Rows}
use Rattle.frame_steps.specs.declared.stack.Stepped.{Stepped as Put}
use Rattle.frame_steps.specs.declared.stack.SyntaxFault.{SyntaxFault}
use Rattle.frame_steps.proofs.ItemFrames.{item_named}
use Rattle.frame_parser.specs.Shown.{is_left_out, ShowsItem, ShowsMark, ShowsPut, ShowsRows}
use Rattle.frame_parser.specs.declared.stack.Item.{Item as CodeItem}

-- the numbers of all frames of rows
abbrev pub all_bare : Rows → Stack
all_bare r = bare ((stack_view r.frames).top ∷ (stack_view r.frames).below)

-- they tell whether an item is open, as the frames do
pub has_shows : (text : Text) (s : State) (r : Rows) → ShowsRows text s r → has_item (all_bare r) ≡ has_item s.stack
has_shows text s r h = by s.stack h.named
  where
    by : (S : Stack) → IsNamed (grammar text) row_name S s.place (stack_view r.frames) → has_item (all_bare r) ≡ has_item S
    by [] n = absurd n
    by (f ∷ S) n = ap (λ (v : frames.Stack). has_item (bare (v.top ∷ v.below))) (sym n) ∙ item_named row_name (f ∷ S)

pub begins_shows : (text : Text) (s : State) (r : Rows) → ShowsRows text s r → begins_item (all_bare r) ≡ begins_item s.stack
begins_shows text s r h = by s.stack h.named
  where
    by : (S : Stack) → IsNamed (grammar text) row_name S s.place (stack_view r.frames) → begins_item (all_bare r) ≡ begins_item S
    by [] n = absurd n
    by (f ∷ S) n = ap (λ (v : frames.Stack). begins_item (bare (v.top ∷ v.below))) (sym n)

pub local_shows : (text : Text) (s : State) (r : Rows) → ShowsRows text s r → is_local (all_bare r) ≡ is_local s.stack
local_shows text s r h = by s.stack h.named
  where
    by : (S : Stack) → IsNamed (grammar text) row_name S s.place (stack_view r.frames) → is_local (all_bare r) ≡ is_local S
    by [] n = absurd n
    by (f ∷ S) n = ap (λ (v : frames.Stack). is_local (bare (v.top ∷ v.below))) (sym n)

-- the item behind a token that begins one
pub behind_begun : (text : Text) (S : Stack) (t : Tok) (i : Option Item) (j : CodeItem) → begins_item S ≡ true → j.col ≡ t.col → ShowsMark text sound j.mark → ShowsItem text (item_behind S t i) (Some j)
behind_begun text S t i j b col mark = subst (λ b. ShowsItem text (if b then Some (item t.col sound) else (if has_item S then i else None)) (Some j)) (sym b) (col, mark)

-- the item that goes on
pub behind_kept : (text : Text) (S : Stack) (t : Tok) (i : Option Item) (j : Option CodeItem) → begins_item S ≡ false → has_item S ≡ true → ShowsItem text i j → ShowsItem text (item_behind S t i) j
behind_kept text S t i j b h shows = subst (λ b. ShowsItem text (if b then Some (item t.col sound) else (if has_item S then i else None)) j) (sym b) (subst (λ h. ShowsItem text (if h then i else None) j) (sym h) shows)

-- an item that is closed
pub behind_gone : (text : Text) (S : Stack) (t : Tok) (i : Option Item) → begins_item S ≡ false → has_item S ≡ false → ShowsItem text (item_behind S t i) None
behind_gone text S t i b h = subst (λ b. ShowsItem text (if b then Some (item t.col sound) else (if has_item S then i else None)) None) (sym b) (subst (λ h. ShowsItem text (if h then i else None) None) (sym h) tt)

-- no item
pub behind_none : (text : Text) (S : Stack) (t : Tok) (i : Option Item) → begins_item S ≡ false → ShowsItem text i None → ShowsItem text (item_behind S t i) None
behind_none text S t i b shows = subst (λ b. ShowsItem text (if b then Some (item t.col sound) else (if has_item S then i else None)) None) (sym b) (by (has_item S))
  where
    by : (h : Bool) → ShowsItem text (if h then i else None) None
    by true = shows
    by false = tt

-- the same by what the faults tell
abbrev pub begins_told : Bool → Option Told → Bool
begins_told b None = b
begins_told b (Some (added p n)) = b
begins_told b (Some (skipped s)) = false
begins_told b (Some (too_deep s)) = true
begins_told b (Some (cut p)) = false

told_local : (S : Stack) (o : Option Fault) → begins_local S o ≡ begins_told (is_local S) (option_map told o)
told_local S None = refl
told_local S (Some (rules.added p n)) = refl
told_local S (Some (rules.skipped t)) = refl
told_local S (Some (rules.too_deep t)) = refl
told_local S (Some (rules.cut p)) = refl

-- whether a step begins a local `let` is told by its fault and its rows
pub put_local : (text : Text) (x : rules.Stepped) (r : Put) → ShowsPut text x r → begins_told (is_local (all_bare r.stack)) (option_map fault_of r.fault) ≡ begins_local x.stack x.fault
put_local text x r h =
    ap (λ b. begins_told b (option_map fault_of r.fault)) (local_shows text (state x.stack x.place) r.stack h.rows)
    ∙ ap (begins_told (is_local x.stack)) h.fault ∙ sym (told_local x.stack x.fault)

abbrev pub after_told : Stack → Tok → Option Told → Option Item → Option Item
after_told S t None i = item_behind S t i
after_told S t (Some (added p n)) i = item_behind S t (faulted i)
after_told S t (Some (skipped s)) i = faulted i
after_told S t (Some (too_deep s)) i = faulted i
after_told S t (Some (cut p)) i = faulted i

told_after : (S : Stack) (t : Tok) (o : Option Fault) (i : Option Item) → item_after S t o i ≡ after_told S t (option_map told o) i
told_after S t None i = refl
told_after S t (Some (rules.added p n)) i = refl
told_after S t (Some (rules.skipped u)) i = refl
told_after S t (Some (rules.too_deep u)) i = refl
told_after S t (Some (rules.cut p)) i = refl

-- the item behind a step is told by its fault
pub put_after : (text : Text) (x : rules.Stepped) (r : Put) (t : Tok) (i : Option Item) (j : Option CodeItem) → ShowsPut text x r → ShowsItem text (after_told x.stack t (option_map fault_of r.fault) i) j → ShowsItem text (item_after x.stack t x.fault i) j
put_after text x r t i j h shows = subst (λ i. ShowsItem text i j) (ap (λ o. after_told x.stack t o i) h.fault ∙ sym (told_after x.stack t x.fault i)) shows

-- a token that was left out is none of an item's
pub after_left : (S : Stack) (t : Tok) (o : Option Told) (i : Option Item) → is_left_out o ≡ true → after_told S t o i ≡ faulted i
after_left S t None i e = absurd (cc)
after_left S t (Some (added p n)) i e = absurd (cc)
after_left S t (Some (skipped s)) i e = refl
after_left S t (Some (too_deep s)) i e = refl
after_left S t (Some (cut p)) i e = refl

-- a token that was taken behind missing parts marks the item before it
pub after_taken : (S : Stack) (t : Tok) (o : Option Told) (i : Option Item) → is_left_out o ≡ false → (o ≡ None → ⊥) → after_told S t o i ≡ item_behind S t (faulted i)
after_taken S t None i e some = absurd (some refl)
after_taken S t (Some (added p n)) i e some = refl
after_taken S t (Some (skipped s)) i e some = absurd (cc)
after_taken S t (Some (too_deep s)) i e some = absurd (cc)
after_taken S t (Some (cut p)) i e some = absurd (cc)

-- a fault that is there is told
pub some_not : (o : Option SyntaxFault) (f : SyntaxFault) → o ≡ Some f → option_map fault_of o ≡ None → ⊥
some_not None f e n = cc e
some_not (Some g) f e n = cc n
