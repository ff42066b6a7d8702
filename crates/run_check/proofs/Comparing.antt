-- How far an output was compared with the replies to the lines of an input.
use Rattle.std.proofs.Common.{◌≡◌, ◌≢◌, ℕ, ◌+◌, ◌-◌, ◌<◌, ◌≤◌, ◌==◌, List, [], ◌∷◌, ◌++◌, true, false, inl, inr, refl, sym, ◌∙◌, ap, subst, arith, length, take, drop, get_or}
use Rattle.std.specs.Prelude.{if◌then◌else◌, MatchOption, Option, None, Some}
use Rattle.std.proofs.lemmas.Bool.Decides.{eqb_tells}
use Rattle.std.proofs.lemmas.List.{append-nil, drop_all, drop_more, get_or-drop, length-drop, take_all, take_more}
use Rattle.text_model.specs.Lines.{ended_from, rest_from, line_feed}
use Rattle.service_model.specs.Runs.{RunsTo, Run, Step, last_line, request_lines}
use Rattle.run_check.specs.Settled.{Goes, SettledRun}

-- the lines of bytes, on the first of which `line` stands before them
abbrev pub lines_left : List ℕ → List ℕ → List (List ℕ)
lines_left line bytes = ended_from line bytes ++ last_line (rest_from line bytes)

-- the part of the input from one place to another
abbrev pub part : List ℕ → ℕ → ℕ → List ℕ
part input start at = take (at - start) (drop start input)

-- A line begins at `start`, and the input was read up to `at`: what is left is a run's for the lines that are left only if the whole is one,
-- and it is a settled run's if the whole is.
pub record Compared (input output : List ℕ) (start at : ℕ) (text left : List ℕ) : Type 0 where
  pub run : (after : List ℕ) → RunsTo text (lines_left (part input start at) (drop at input)) left after → RunsTo [] (request_lines input) output after
  pub settled : SettledRun [] (request_lines input) output → SettledRun text (lines_left (part input start at) (drop at input)) left

-- ---- the lines that are left

-- a byte that goes on with a line
byte_lines : (line bytes : List ℕ) (b : ℕ) → (b == line_feed) ≡ false → lines_left line (b ∷ bytes) ≡ lines_left (line ++ b ∷ []) bytes
byte_lines line bytes b is = ap (λ t. (if t then line ∷ ended_from [] bytes else ended_from (line ++ b ∷ []) bytes) ++ last_line (if t then rest_from [] bytes else rest_from (line ++ b ∷ []) bytes)) is

part_more : (input : List ℕ) (start at : ℕ) → at < length input → start ≤ at → part input start (at + 1) ≡ part input start at ++ get_or input at 0 ∷ []
part_more input start at within order =
    let more : at + 1 - start ≡ at - start + 1 = omega (arith, order) in
    let place : start + (at - start) ≡ at = omega (arith, order) in
    ap (λ n. take n (drop start input)) more ∙ take_more (drop start input) (at - start) 0 (omega (arith, length-drop start input, within, order))
    ∙ ap (λ b. part input start at ++ b ∷ []) (get_or-drop start input (at - start) 0 ∙ ap (λ k. get_or input k 0) place)

part_none : (input : List ℕ) (k : ℕ) → part input k k ≡ []
part_none input k = let none : k - k ≡ 0 = omega arith in ap (λ n. take n (drop k input)) none

left_at_byte : (input : List ℕ) (start at : ℕ) → at < length input → start ≤ at → (get_or input at 0 == line_feed) ≡ false
    → lines_left (part input start at) (drop at input) ≡ lines_left (part input start (at + 1)) (drop (at + 1) input)
left_at_byte input start at within order is =
    ap (lines_left (part input start at)) (drop_more input at 0 within) ∙ byte_lines (part input start at) (drop (at + 1) input) (get_or input at 0) is
    ∙ ap (λ l. lines_left l (drop (at + 1) input)) (sym (part_more input start at within order))

left_at_feed : (input : List ℕ) (start at : ℕ) → at < length input → get_or input at 0 ≡ line_feed
    → lines_left (part input start at) (drop at input) ≡ part input start at ∷ lines_left (part input (at + 1) (at + 1)) (drop (at + 1) input)
left_at_feed input start at within is =
    ap (lines_left (part input start at)) (drop_more input at 0 within) ∙ ap (λ b. lines_left (part input start at) (b ∷ drop (at + 1) input)) is
    ∙ ap (λ l. part input start at ∷ lines_left l (drop (at + 1) input)) (sym (part_none input (at + 1)))

-- ---- the comparison goes on

pub compared_first : (input output text : List ℕ) → text ≡ [] → Compared input output 0 0 text output
compared_first input output text empty = subst (λ t. Compared input output 0 0 t output) (sym empty) (record { run = λ after ran. ran; settled = λ settled. settled })

pub compared_byte : (input output : List ℕ) (start at : ℕ) (text left : List ℕ) → at < length input → start ≤ at → (get_or input at 0 == line_feed) ≡ false
    → Compared input output start at text left → Compared input output start (at + 1) text left
compared_byte input output start at text left within order is so_far =
    let same = left_at_byte input start at within order is in
    record {
      run = λ after ran. so_far.run after (subst (λ (ls : List (List ℕ)). RunsTo text ls left after) (sym same) ran);
      settled = λ settled. subst (λ (ls : List (List ℕ)). SettledRun text ls left) same (so_far.settled settled);
    }

-- what is found behind the reply to a line
abbrev pub Found : List ℕ → List ℕ → List ℕ → List ℕ → List ℕ → Type 0
Found text line left after rest = (piece : List ℕ) × Step text line piece after × (left ≡ piece ++ rest)

-- a settled reply is followed by the same
abbrev pub Only : List ℕ → List ℕ → List ℕ → List ℕ → List ℕ → Type 0
Only text line left after rest = (mid xs : List ℕ) → Goes text line left mid xs → (mid ≡ after) × (xs ≡ rest)

pub compared_feed : (input output : List ℕ) (start at : ℕ) (text left after rest : List ℕ) → at < length input → get_or input at 0 ≡ line_feed → Compared input output start at text left
    → Found text (part input start at) left after rest → Only text (part input start at) left after rest → Compared input output (at + 1) (at + 1) after rest
compared_feed input output start at text left after rest within is so_far (piece, step, front) only =
    let same = left_at_feed input start at within is in
    record {
      run = λ end ran. so_far.run end (subst (λ (ls : List (List ℕ)). RunsTo text ls left end) (sym same) (piece, after, rest, step, ran, front));
      settled = λ settled.
          let (mid, xs, goes, later) = subst (λ (ls : List (List ℕ)). SettledRun text ls left) same (so_far.settled settled) in
          let (leaves, behind) = only mid xs goes in
          let lines = lines_left (part input (at + 1) (at + 1)) (drop (at + 1) input) in
          subst (λ (t : List ℕ). SettledRun t lines rest) leaves (subst (λ (x : List ℕ). SettledRun mid lines x) behind later);
    }

-- no settled reply to a line is there
pub not_settled : (input output : List ℕ) (start at : ℕ) (text left : List ℕ) → at < length input → get_or input at 0 ≡ line_feed → Compared input output start at text left
    → ((mid xs : List ℕ) → Goes text (part input start at) left mid xs → ⊥) → SettledRun [] (request_lines input) output → ⊥
not_settled input output start at text left within is so_far none settled =
    let (mid, xs, goes, later) = subst (λ (ls : List (List ℕ)). SettledRun text ls left) (left_at_feed input start at within is) (so_far.settled settled) in
    none mid xs goes

-- ---- the last line

last_step : (line text left piece after : List ℕ) → Step text line piece after → left ≡ piece ++ [] → RunsTo text (last_line line) left after
last_step [] text left piece after step front = (front ∙ append-nil piece ∙ step.0, step.1)
last_step (b ∷ bs) text left piece after step front = (piece, after, [], step, (refl, refl), front)

last_goes : (line text left : List ℕ) → SettledRun text (last_line line) left → (mid : List ℕ) × (xs : List ℕ) × Goes text line left mid xs × (xs ≡ [])
last_goes [] text left settled = (text, [], record { piece = []; step = (refl, refl); settled = λ some. (let never : ⊥ = cc in absurd never); front = settled }, refl)
last_goes (b ∷ bs) text left settled = settled

at_end : (input : List ℕ) (start at : ℕ) → length input ≤ at → lines_left (part input start at) (drop at input) ≡ last_line (part input start (length input))
at_end input start at all =
    let size = length-drop start input in
    let whole : part input start at ≡ drop start input = take_all (at - start) (drop start input) (omega (arith, size, all)) in
    let same : part input start (length input) ≡ drop start input = take_all (length input - start) (drop start input) (omega (arith, size)) in
    ap (lines_left (part input start at)) (drop_all at input all) ∙ ap (λ l. last_line l) (whole ∙ sym same)

pub ran_whole : (input output : List ℕ) (start at : ℕ) (text left after rest : List ℕ) → length input ≤ at → Compared input output start at text left
    → Found text (part input start (length input)) left after rest → rest ≡ [] → Run (request_lines input) output
ran_whole input output start at text left after rest all so_far (piece, step, front) empty =
    let last = last_step (part input start (length input)) text left piece after step (front ∙ ap (λ (x : List ℕ). piece ++ x) empty) in
    (after, so_far.run after (subst (λ (ls : List (List ℕ)). RunsTo text ls left after) (sym (at_end input start at all)) last))

settled_last : (input output : List ℕ) (start at : ℕ) (text left : List ℕ) → length input ≤ at → Compared input output start at text left → SettledRun [] (request_lines input) output
    → (mid : List ℕ) × (xs : List ℕ) × Goes text (part input start (length input)) left mid xs × (xs ≡ [])
settled_last input output start at text left all so_far settled =
    last_goes (part input start (length input)) text left (subst (λ (ls : List (List ℕ)). SettledRun text ls left) (at_end input start at all) (so_far.settled settled))

-- bytes are left behind the last reply
pub too_long : (input output : List ℕ) (start at : ℕ) (text left after rest : List ℕ) → length input ≤ at → Compared input output start at text left
    → Only text (part input start (length input)) left after rest → rest ≢ [] → SettledRun [] (request_lines input) output → ⊥
too_long input output start at text left after rest all so_far only some settled =
    let (mid, xs, goes, none) = settled_last input output start at text left all so_far settled in
    some (sym (only mid xs goes).1 ∙ none)

-- no settled reply to the last line is there
pub last_not_settled : (input output : List ℕ) (start at : ℕ) (text left : List ℕ) → length input ≤ at → Compared input output start at text left
    → ((mid xs : List ℕ) → Goes text (part input start (length input)) left mid xs → ⊥) → SettledRun [] (request_lines input) output → ⊥
last_not_settled input output start at text left all so_far never settled =
    let (mid, xs, goes, none) = settled_last input output start at text left all so_far settled in
    never mid xs goes

-- ---- as the code has it

-- what is said of an option that has a value
pub of_some : {X : Type 0} (o : Option X) (x : X) (N : Type 0) (F : X → Type 0) → o ≡ Some x → MatchOption o N F → F x
of_some o x N F is said = subst (λ p. MatchOption p N F) is said

-- and of one that has none
pub of_none : {X : Type 0} (o : Option X) (N : Type 0) (F : X → Type 0) → o ≡ None → MatchOption o N F → N
of_none o N F is said = subst (λ p. MatchOption p N F) is said

pub compared_at : (input output : List ℕ) (start from at : ℕ) (text mid left rest : List ℕ) → from ≡ start → mid ≡ text → rest ≡ left → Compared input output start at text left → Compared input output from at mid rest
compared_at input output start from at text mid left rest s t l so_far =
    subst (λ n. Compared input output n at mid rest) (sym s) (subst (λ (m : List ℕ). Compared input output start at m rest) (sym t) (subst (λ (r : List ℕ). Compared input output start at text r) (sym l) so_far))

pub no_more : (xs : List ℕ) → (length xs == 0) ≡ true → xs ≡ []
no_more [] none = refl
no_more (x ∷ xs) none = absurd (elim (eqb_tells (length (x ∷ xs)) 0) [ inl same ↦ omega (arith, same.1) | inr other ↦ (let never : ⊥ = cc in never) ])

pub some_more : (xs : List ℕ) → (length xs == 0) ≡ false → xs ≢ []
some_more [] some = (let never : ⊥ = cc in absurd never)
some_more (x ∷ xs) some = λ e. (let never : ⊥ = cc in absurd never)
