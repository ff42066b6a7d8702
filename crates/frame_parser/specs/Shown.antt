-- For which parsers of the definitions the code's stacks stand.
use Rattle.std.specs.Prelude.{◌≡◌, Bool, true, false, ℕ, ◌+◌, ◌<◌, ◌≤◌, List, [], ◌∷◌, length, drop, map, reverse, Option, Some, None, option_map}
use Rattle.std.specs.declared.rc.Rc.{Rc}
use Rattle.std.specs.declared.alloc.Global.{Global}
use Rattle.token_model.specs.Kinds.{Tok}
use Rattle.recovery_model.specs.Steps as rules
use Rattle.grammar_model.specs.Trees.{Tree}
use Rattle.grammar_model.specs.Named.{named, items_of}
use Rattle.grammar_model.specs.Ocaml.{Text, grammar, row_name}
use Rattle.recovery_model.specs.Items.{State, state, Mark, sound, held, marked, Item, Parser, Stepped, is_cut}
use Rattle.recovery_model.specs.Recovery.{step_item}
use Rattle.frame_parser.specs.Run.{shifts_item}
use Rattle.syntax_tree.specs.View.{tok_of, trees_of}
use Rattle.syntax_rows.specs.View.{text_of}
use Rattle.parse_frames.specs.Named.{IsNamed}
use Rattle.parse_frames.specs.Stacks.{stack_view}
use Rattle.parse_frames.specs.View.{shared}
use Rattle.frame_steps.specs.Told as tells
use Rattle.frame_steps.specs.Told.{Told, told}
use Rattle.frame_steps.specs.View.{fault_of}
use Rattle.frame_steps.specs.Reached.{Reached}
use Rattle.frame_steps.specs.declared.stack.Stack.{Stack as Rows}
use Rattle.frame_steps.specs.declared.stack.Stepped.{Stepped as Put}
use Rattle.frame_steps.specs.declared.stack.Whole.{Whole}
use Rattle.frame_parser.specs.declared.stack.Closed.{Closed}
use Rattle.frame_parser.specs.declared.stack.Kept.{Kept, fold-Kept}
use Rattle.frame_parser.specs.declared.stack.Kept.TheOpen.{Kept-F}
use Rattle.frame_parser.specs.declared.stack.Mark as code
use Rattle.frame_parser.specs.declared.stack.Mark.TheVariants.{Sound, Held, Marked}
use Rattle.frame_parser.specs.declared.stack.Item.{Item as CodeItem}
use Rattle.frame_parser.specs.declared.stack.Stack.{Stack}
use Rattle.frame_parser.specs.declared.stack.Stepped.{Stepped as CodeStepped}
use Rattle.frame_parser.specs.declared.stack.Taken.{Taken}

-- one kept token, with those before it already seen
abbrev pub kept_step : Kept-F (List Tok) → List Tok
kept_step k = tok_of k.token ∷ shared k.before

-- kept tokens, the newest first
abbrev pub kept_view : Kept → List Tok
kept_view = fold-Kept (List Tok) kept_step

-- the same for those that may be none
abbrev pub tokens_view : Option (Rc Kept Global) → List Tok
tokens_view None = []
tokens_view (Some r) = kept_view r.value

-- rows stand for frames of a text's machine
pub record ShowsRows (text : Text) (s : State) (r : Rows) : Type 0 where
  pub of_text : text_of r.text ≡ text
  pub named : IsNamed (grammar text) row_name s.stack s.place (stack_view r.frames)

-- what the code knows of an item is what the definition knows of it
abbrev pub ShowsMark : Text → Mark → code.Mark → Type 0
ShowsMark text sound Sound = Unit {0}
ShowsMark text sound (Held before since) = ⊥
ShowsMark text sound Marked = ⊥
ShowsMark text (held q ts) Sound = ⊥
ShowsMark text (held q ts) (Held before since) = ShowsRows text q before × (reverse (tokens_view since) ≡ ts)
ShowsMark text (held q ts) Marked = ⊥
ShowsMark text marked Sound = ⊥
ShowsMark text marked (Held before since) = ⊥
ShowsMark text marked Marked = Unit {0}

-- an item that may be none is the code's
abbrev pub ShowsItem : Text → Option Item → Option CodeItem → Type 0
ShowsItem text None None = Unit {0}
ShowsItem text None (Some j) = ⊥
ShowsItem text (Some i) None = ⊥
ShowsItem text (Some i) (Some j) = (j.col ≡ i.col) × ShowsMark text i.mark j.mark

-- a stack stands for a parser of a text
pub record Shows (text : Text) (p : Parser) (s : Stack) : Type 0 where
  pub rows : ShowsRows text p.state s.rows
  pub item : ShowsItem text p.item s.item

-- a step of the code is one of the definition
pub record ShowsStep (text : Text) (x : Stepped) (r : CodeStepped) : Type 0 where
  pub stack : Shows text x.parser r.stack
  pub faults : map fault_of r.faults.items ≡ map told x.faults

-- the same with the number of tokens that it took
pub record ShowsTaken (text : Text) (x : Stepped) (n : ℕ) (r : Taken) : Type 0 where
  pub step : ShowsStep text x r.stepped
  pub count : r.count ≡ n

-- the same for the rules for one token
pub record ShowsPut (text : Text) (x : rules.Stepped) (r : Put) : Type 0 where
  pub rows : ShowsRows text (state x.stack x.place) r.stack
  pub fault : option_map fault_of r.fault ≡ option_map told x.fault

-- the token of this fault was left out
abbrev pub is_left_out : Option Told → Bool
is_left_out None = false
is_left_out (Some (tells.added p n)) = false
is_left_out (Some (tells.skipped s)) = true
is_left_out (Some (tells.too_deep s)) = true
is_left_out (Some (tells.cut p)) = true

-- the tree of rows without so many of its first items, and how many parts are missing at its end, are those of the frames
pub record ShowsWhole (from : ℕ) (text : Text) (s : State) (w : Whole) : Type 0 where
  pub tree : trees_of w.tree ≡ drop from (items_of (named row_name (rules.close_up (grammar text) s.stack s.place).0))
  pub holes : w.holes ≡ (rules.close_up (grammar text) s.stack s.place).1

-- a tree without so many of its first items, with its faults, is the one of the definition
pub record ShowsEnd (from : ℕ) (text : Text) (e : Tree × List rules.Fault) (r : Closed) : Type 0 where
  pub tree : trees_of r.tree ≡ drop from (items_of (named row_name e.0))
  pub faults : map fault_of r.faults.items ≡ map told e.1

-- so many tokens lead to these frames
abbrev pub IsReached : Text → ℕ → State → Type 0
IsReached text n s = Reached text n s.stack s.place

-- the frames to which an item goes back come with fewer tokens, by those that it keeps
abbrev pub KeepsFew : Text → ℕ → Mark → Type 0
KeepsFew text n sound = Unit {0}
KeepsFew text n (held q ts) = (m : ℕ) × IsReached text m q × (m + length ts ≤ n)
KeepsFew text n marked = Unit {0}

-- the same for an item that may be none
abbrev pub ItemKeepsFew : Text → ℕ → Option Item → Type 0
ItemKeepsFew text n None = Unit {0}
ItemKeepsFew text n (Some i) = KeepsFew text n i.mark

-- so many tokens lead to a parser
pub record Comes (text : Text) (n : ℕ) (p : Parser) : Type 0 where
  pub frames : IsReached text n p.state
  pub item : ItemKeepsFew text n p.item

-- frames to which so many tokens lead, for which rows stand
pub record RowsReady (n : ℕ) (r : Rows) : Type 0 where
  pub text : Text
  pub state : State
  pub shows : ShowsRows text state r
  pub reached : IsReached text n state

-- a stack is that of some parser to which fewer tokens lead than this
pub record IsReady (most : ℕ) (s : Stack) : Type 0 where
  pub text : Text
  pub parser : Parser
  pub count : ℕ
  pub shows : Shows text parser s
  pub comes : Comes text count parser
  pub few : count ≤ most

-- rows and an item to which fewer tokens lead than there may be
pub record InItem (text : Text) (s : State) (i : Item) (n : ℕ) (r : Rows) (j : CodeItem) : Type 0 where
  pub rows : ShowsRows text s r
  pub reached : IsReached text n s
  pub item : ShowsItem text (Some i) (Some j)
  pub keeps : KeepsFew text n i.mark
  pub few : n < 1048576

-- a step in an item is the one of the definition
abbrev pub ShowsTakenIn : Text → State → Item → Tok → Taken → Type 0
ShowsTakenIn text s i t r =
    let x = rules.step (grammar text) s.stack s.place t in
    ShowsTaken text (step_item (grammar text) s i.col t x (is_cut i.col t x) i.mark) (shifts_item s t (is_cut i.col t x) x.fault i.mark) r
