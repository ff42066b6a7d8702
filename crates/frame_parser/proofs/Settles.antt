-- How many items are settled behind the tokens on a stack.
use Rattle.std.proofs.Common.{◌≡◌, ℕ, ◌≤◌, List, [], ◌∷◌, length, reverse, Option, Some, None, refl, sym, ◌∙◌, ap, subst, arith}
use Rattle.std.proofs.lemmas.List.{length-map, length-reverse}
use Rattle.token_model.specs.Kinds.{Tok}
use Rattle.grammar_model.specs.Machine.{Frame, Stack as Frames}
use Rattle.grammar_model.specs.Named.{named}
use Rattle.grammar_model.specs.Tables.{Table}
use Rattle.grammar_model.specs.Ocaml.{Text, grammar, row_name}
use Rattle.recovery_model.specs.Items.{State, Mark, sound, held, marked, Item, Parser}
use Rattle.recovery_model.specs.Recovery.{step, start}
use Rattle.settled_laws.specs.Settled.{inners, outer, back_to, back_by, kept_frames, settled, behind_all, settled_in}
use Rattle.std.specs.declared.rc.Rc.{Rc}
use Rattle.std.specs.declared.alloc.Global.{Global}
use Rattle.parse_frames.specs.Stacks.{stack_view}
use Rattle.frame_steps.specs.View.{Stands}
use Rattle.frame_steps.specs.declared.stack.Stack.{Stack as Rows}
use Rattle.frame_parser.specs.Run.{run_on, run}
use Rattle.frame_parser.specs.Shown.{IsReached, ItemKeepsFew, KeepsFew, ShowsItem, ShowsMark, ShowsRows}
use Rattle.frame_parser.specs.declared.stack.Item.{Item as CodeItem}
use Rattle.frame_parser.specs.declared.stack.Kept.{Kept}
use Rattle.frame_parser.specs.declared.stack.Mark.TheVariants.{Sound, Held, Marked}
use Rattle.frame_parser.proofs.Rows.{opened}

run_is : (G : Table) (ts : List Tok) (p : Parser) → behind_all G ts p ≡ run_on G ts p
run_is G [] p = refl
run_is G (t ∷ ts) p = run_is G ts (step G p t).parser

-- the settled items are those of the parser behind the tokens
pub settled_run : (text : Text) (ts : List Tok) → settled_in text ts ≡ settled (run text ts)
unfolding settled_in run
settled_run text ts = ap settled (run_is (grammar text) ts (start (grammar text)))

-- so many nodes are settled
pub settled_many : (text : Text) (ts : List Tok) (k : ℕ) (S : Frames) → kept_frames (run text ts) ≡ S → k ≡ length (inners (outer S).done) → k ≡ length (settled_in text ts)
settled_many text ts k S kept e =
    let xs = inners (outer (kept_frames (run text ts))).done in
    e ∙ ap (λ S. length (inners (outer S).done)) (sym kept) ∙ sym (length-reverse xs) ∙ sym (length-map (reverse xs) (named row_name)) ∙ ap length (sym (settled_run text ts))

-- the number of items of rows
pub rows_many : (text : Text) (s : State) (n k : ℕ) (r : Rows) → ShowsRows text s r → IsReached text n s → n ≤ 1048576
    → ((f : Frame) (S : Frames) (at : ℕ) → Stands r.text (f ∷ S) at (stack_view r.frames) → k ≡ length (inners (outer (f ∷ S)).done)) → k ≡ length (inners (outer s.stack).done)
rows_many text s n k r shows reached few count =
    let o = opened text s n r shows reached few in
    count o.top o.below s.place o.stands ∙ ap (λ S. length (inners (outer S).done)) (sym o.is)

-- the frames of which nothing is undone, where no item is open, and where it holds none
pub kept_none : (text : Text) (p : Parser) → ShowsItem text p.item None → kept_frames p ≡ p.state.stack
kept_none text p h = by p.item h
  where
    by : (o : Option Item) → ShowsItem text o None → back_by p.state.stack o ≡ p.state.stack
    by None h = refl
    by (Some i) h = absurd h

pub kept_sound : (text : Text) (p : Parser) (j : CodeItem) → j.mark ≡ Sound → ShowsItem text p.item (Some j) → kept_frames p ≡ p.state.stack
kept_sound text p j is h = by p.item h
  where
    of : (m : Mark) → ShowsMark text m Sound → back_to p.state.stack m ≡ p.state.stack
    of sound h = refl
    of marked h = refl
    of (held q ts) h = absurd h

    by : (o : Option Item) → ShowsItem text o (Some j) → back_by p.state.stack o ≡ p.state.stack
    by None h = absurd h
    by (Some i) h = of i.mark (subst (ShowsMark text i.mark) is h.1)

pub kept_marked : (text : Text) (p : Parser) (j : CodeItem) → j.mark ≡ Marked → ShowsItem text p.item (Some j) → kept_frames p ≡ p.state.stack
kept_marked text p j is h = by p.item h
  where
    of : (m : Mark) → ShowsMark text m Marked → back_to p.state.stack m ≡ p.state.stack
    of sound h = refl
    of marked h = refl
    of (held q ts) h = absurd h

    by : (o : Option Item) → ShowsItem text o (Some j) → back_by p.state.stack o ≡ p.state.stack
    by None h = absurd h
    by (Some i) h = of i.mark (subst (ShowsMark text i.mark) is h.1)

-- the frames that an item holds
pub record Holding (text : Text) (p : Parser) (n : ℕ) (before : Rows) : Type 0 where
  pub state : State
  pub is : kept_frames p ≡ state.stack
  pub shows : ShowsRows text state before
  pub count : ℕ
  pub reached : IsReached text count state
  pub few : count ≤ n

pub kept_held : (text : Text) (p : Parser) (n : ℕ) (j : CodeItem) (before : Rows) (since : Option (Rc Kept Global)) → j.mark ≡ Held before since → ShowsItem text p.item (Some j) → ItemKeepsFew text n p.item → Holding text p n before
kept_held text p n j before since is h few = by p.item refl h few
  where
    of : (m : Mark) → kept_frames p ≡ back_to p.state.stack m → ShowsMark text m (Held before since) → KeepsFew text n m → Holding text p n before
    of sound e h few = absurd h
    of marked e h few = absurd h
    of (held q ts) e h few = let (m, reached, le) = few in record { state = q; is = e; shows = h.0; count = m; reached = reached; few = omega arith }

    by : (o : Option Item) → p.item ≡ o → ShowsItem text o (Some j) → ItemKeepsFew text n o → Holding text p n before
    by None e h few = absurd h
    by (Some i) e h few = of i.mark (ap (back_by p.state.stack) e) (subst (ShowsMark text i.mark) is h.1) few
