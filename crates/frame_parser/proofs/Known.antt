-- Steps and the end in an item, by what is known of it.
use Rattle.std.proofs.Common.{◌≡◌, ℕ, ◌+◌, ◌≤◌, Bool, true, false, ◌&&◌, List, length, reverse, Option, Some, None, option_map, refl, sym, ◌∙◌, ap, subst, arith, if◌then◌else◌}
use Rattle.std.proofs.lemmas.List.{length-reverse}
use Rattle.std.specs.declared.rc.Rc.{Rc}
use Rattle.std.specs.declared.alloc.Global.{Global}
use Rattle.token_model.specs.Kinds.{Tok}
use Rattle.recovery_model.specs.Steps as rules
use Rattle.recovery_model.specs.Steps.{Fault}
use Rattle.grammar_model.specs.Ocaml.{Text, grammar}
use Rattle.recovery_model.specs.Items.{State, Mark, sound, held, marked, Item, item, Parser, Stepped, is_cut, cut_step}
use Rattle.recovery_model.specs.Recovery.{go_on, go_back, with_token, step_sound, is_marked, step_item, step_by, step}
use Rattle.frame_steps.specs.Told.{Told, told}
use Rattle.frame_steps.specs.View.{fault_of}
use Rattle.frame_steps.specs.declared.stack.Stack.{Stack as Rows}
use Rattle.frame_steps.specs.declared.stack.Stepped.{Stepped as Put}
use Rattle.frame_steps.specs.declared.stack.SyntaxFault.{SyntaxFault}
use Rattle.frame_parser.specs.Run.{shifts_sound, shifts_item, shifts_by, shifts}
use Rattle.frame_parser.specs.Shown.{tokens_view, RowsReady, KeepsFew, ShowsItem, ShowsMark, ShowsPut, ShowsRows, ShowsStep, ShowsTaken}
use Rattle.frame_parser.specs.declared.stack.Kept.{Kept}
use Rattle.frame_parser.specs.declared.stack.Item.{Item as CodeItem}
use Rattle.frame_parser.specs.declared.stack.Mark.TheVariants.{Sound, Held, Marked}
use Rattle.frame_parser.specs.declared.stack.Stepped.{Stepped as CodeStepped}
use Rattle.frame_parser.specs.declared.stack.Taken.{Taken}

-- a step without a fault, and one with one, as the code has them
pub fault_none : (text : Text) (x : rules.Stepped) (q : Put) → ShowsPut text x q → q.fault ≡ None → x.fault ≡ None
fault_none text x q put none = by x.fault (ap (option_map fault_of) (sym none) ∙ put.fault)
  where
    by : (o : Option Fault) → ◌≡◌ {A = Option Told} None (option_map told o) → o ≡ None
    by None e = refl
    by (Some f) e = absurd (cc e)

pub fault_some : (text : Text) (x : rules.Stepped) (q : Put) (g : SyntaxFault) → ShowsPut text x q → q.fault ≡ Some g → (f : Fault) × (x.fault ≡ Some f)
fault_some text x q g put some = by x.fault (ap (option_map fault_of) (sym some) ∙ put.fault)
  where
    by : (o : Option Fault) → ◌≡◌ {A = Option Told} (Some (fault_of g)) (option_map told o) → (f : Fault) × (o ≡ Some f)
    by None e = absurd (cc e)
    by (Some f) e = (f, refl)

-- without a fault the parser goes on
pub sound_none : (text : Text) (x : rules.Stepped) (t : Tok) (col : ℕ) (m : Mark) (r : Taken) → x.fault ≡ None → ShowsTaken text (go_on (Some (item col m)) t x) 1 r → ShowsTaken text (step_sound (grammar text) col t x x.fault m) (shifts_sound x.fault m) r
sound_none text x t col m r none step = subst (λ o. ShowsTaken text (step_sound (grammar text) col t x o m) (shifts_sound o m) r) (sym none) step

-- with one, in an item without cut tokens, it goes on too
pub sound_on : (text : Text) (x : rules.Stepped) (t : Tok) (col : ℕ) (m : Mark) (r : Taken) → (f : Fault) × (x.fault ≡ Some f) → ShowsMark text m Sound → ShowsTaken text (go_on (Some (item col m)) t x) 1 r → ShowsTaken text (step_sound (grammar text) col t x x.fault m) (shifts_sound x.fault m) r
sound_on text x t col sound r (f, e) shows step = subst (λ o. ShowsTaken text (step_sound (grammar text) col t x o sound) (shifts_sound o sound) r) (sym e) step
sound_on text x t col (held q ts) r some shows step = absurd shows
sound_on text x t col marked r some shows step = absurd shows

pub marked_on : (text : Text) (x : rules.Stepped) (t : Tok) (col : ℕ) (m : Mark) (r : Taken) → (f : Fault) × (x.fault ≡ Some f) → ShowsMark text m Marked → ShowsTaken text (go_on (Some (item col m)) t x) 1 r → ShowsTaken text (step_sound (grammar text) col t x x.fault m) (shifts_sound x.fault m) r
marked_on text x t col marked r (f, e) shows step = subst (λ o. ShowsTaken text (step_sound (grammar text) col t x o marked) (shifts_sound o marked) r) (sym e) step
marked_on text x t col sound r some shows step = absurd shows
marked_on text x t col (held q ts) r some shows step = absurd shows

-- in one with cut tokens it goes back
pub held_back : (text : Text) (x : rules.Stepped) (t : Tok) (col : ℕ) (m : Mark) (before : Rows) (since : Option (Rc Kept Global)) (r : Taken) → (f : Fault) × (x.fault ≡ Some f) → ShowsMark text m (Held before since) → KeepsFew text 1048576 m
    → ((q : State) (ts : List Tok) → ShowsRows text q before → reverse (tokens_view since) ≡ ts → KeepsFew text 1048576 (held q ts) → ShowsTaken text (go_back (grammar text) col q ts) (length ts) r)
    → ShowsTaken text (step_sound (grammar text) col t x x.fault m) (shifts_sound x.fault m) r
held_back text x t col (held q ts) before since r (f, e) shows few step = subst (λ o. ShowsTaken text (step_sound (grammar text) col t x o (held q ts)) (shifts_sound o (held q ts)) r) (sym e) (step q ts shows.0 shows.1 few)
held_back text x t col sound before since r some shows few step = absurd shows
held_back text x t col marked before since r some shows few step = absurd shows

-- the rows to which it goes back
pub held_ready : (text : Text) (m : Mark) (before : Rows) (since : Option (Rc Kept Global)) → ShowsMark text m (Held before since) → KeepsFew text 1048576 m → (n : ℕ) × RowsReady n before × (n + length (tokens_view since) ≤ 1048576)
held_ready text (held q ts) before since shows (n, reached, le) =
    let a = ap length shows.1 in
    let b = length-reverse (tokens_view since) in
    (n, record { text = text; state = q; shows = shows.0; reached = reached }, omega arith)
held_ready text sound before since shows few = absurd shows
held_ready text marked before since shows few = absurd shows

-- more tokens may have come
pub few_within : (text : Text) (n k : ℕ) (m : Mark) → KeepsFew text n m → n ≤ k → KeepsFew text k m
few_within text n k sound h le = tt
few_within text n k (held q ts) (m, reached, few) le = (m, reached, omega arith)
few_within text n k marked h le = tt

-- where no item is open
pub step_none : (text : Text) (p : Parser) (t : Tok) (r : Taken) → ShowsItem text p.item None → ShowsTaken text (go_on None t (rules.step (grammar text) p.state.stack p.state.place t)) 1 r → ShowsTaken text (step (grammar text) p t) (shifts (grammar text) p t) r
unfolding step shifts
step_none text p t r shows go = by p.item shows
  where
    by : (o : Option Item) → ShowsItem text o None → ShowsTaken text (step_by (grammar text) p.state o t (rules.step (grammar text) p.state.stack p.state.place t)) (shifts_by p.state o t (rules.step (grammar text) p.state.stack p.state.place t)) r
    by None h = go
    by (Some i) h = absurd h

-- in an open item
pub step_some : (text : Text) (p : Parser) (t : Tok) (j : CodeItem) (r : Taken) → ShowsItem text p.item (Some j)
    → ((i : Item) → p.item ≡ Some i → ShowsItem text (Some i) (Some j)
    → ShowsTaken text (step_item (grammar text) p.state i.col t (rules.step (grammar text) p.state.stack p.state.place t) (is_cut i.col t (rules.step (grammar text) p.state.stack p.state.place t)) i.mark) (shifts_item p.state t (is_cut i.col t (rules.step (grammar text) p.state.stack p.state.place t)) (rules.step (grammar text) p.state.stack p.state.place t).fault i.mark) r)
    → ShowsTaken text (step (grammar text) p t) (shifts (grammar text) p t) r
unfolding step shifts
step_some text p t j r shows go = by p.item refl shows
  where
    by : (o : Option Item) → p.item ≡ o → ShowsItem text o (Some j) → ShowsTaken text (step_by (grammar text) p.state o t (rules.step (grammar text) p.state.stack p.state.place t)) (shifts_by p.state o t (rules.step (grammar text) p.state.stack p.state.place t)) r
    by None e h = absurd h
    by (Some i) e h = go i e h

-- a cut token in an item with a fault
pub item_cut : (text : Text) (s : State) (col : ℕ) (t : Tok) (x : rules.Stepped) (c : Bool) (m : Mark) (r : Taken) → (c && is_marked m) ≡ true → ShowsTaken text (cut_step (grammar text) s t) 1 r → ShowsTaken text (step_item (grammar text) s col t x c m) (shifts_item s t c x.fault m) r
item_cut text s col t x c m r e go = subst (λ b. ShowsTaken text (if b then cut_step (grammar text) s t else step_sound (grammar text) col t x x.fault (with_token s t c m)) (if b then 1 else shifts_sound x.fault (with_token s t c m)) r) (sym e) go

-- any other
pub item_on : (text : Text) (s : State) (col : ℕ) (t : Tok) (x : rules.Stepped) (c : Bool) (m : Mark) (r : Taken) → (c && is_marked m) ≡ false → ShowsTaken text (step_sound (grammar text) col t x x.fault (with_token s t c m)) (shifts_sound x.fault (with_token s t c m)) r → ShowsTaken text (step_item (grammar text) s col t x c m) (shifts_item s t c x.fault m) r
item_on text s col t x c m r e go = subst (λ b. ShowsTaken text (if b then cut_step (grammar text) s t else step_sound (grammar text) col t x x.fault (with_token s t c m)) (if b then 1 else shifts_sound x.fault (with_token s t c m)) r) (sym e) go

-- the definition's item, where the code has one
pub item_of : (text : Text) (o : Option Item) (j : CodeItem) → ShowsItem text o (Some j) → (i : Item) × (o ≡ Some i) × ShowsItem text (Some i) (Some j)
item_of text None j h = absurd h
item_of text (Some i) j h = (i, refl, h)

-- a step that took its token alone
pub once : (text : Text) (x : Stepped) (q : CodeStepped) (r : Taken) → r.stepped ≡ q → r.count ≡ 1 → ShowsStep text x q → ShowsTaken text x 1 r
once text x q r same one step = record { step = subst (ShowsStep text x) (sym same) step; count = one }

-- a token in an item, by the column and the cut token of the code's
pub item_shows : (text : Text) (s : State) (i : Item) (j : CodeItem) (t : Tok) (x : rules.Stepped) (c : Bool) (r : Taken) → ShowsItem text (Some i) (Some j) → c ≡ is_cut j.col t x
    → ShowsTaken text (step_item (grammar text) s j.col t x c i.mark) (shifts_item s t c x.fault i.mark) r
    → ShowsTaken text (step_item (grammar text) s i.col t x (is_cut i.col t x) i.mark) (shifts_item s t (is_cut i.col t x) x.fault i.mark) r
item_shows text s i j t x c r h e go =
    subst (λ b. ShowsTaken text (step_item (grammar text) s i.col t x b i.mark) (shifts_item s t b x.fault i.mark) r) (e ∙ ap (λ col. is_cut col t x) h.0)
    (subst (λ col. ShowsTaken text (step_item (grammar text) s col t x c i.mark) (shifts_item s t c x.fault i.mark) r) h.0 go)
