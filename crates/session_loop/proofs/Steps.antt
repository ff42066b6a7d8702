-- A line is answered as its kept front is, and a run goes on by a byte.
use Rattle.std.proofs.Common.{◌≡◌, ◌⊎◌, inl, inr, ℕ, suc, List, [], ◌∷◌, ◌++◌, length, take, true, false, refl, sym, ◌∙◌, ap, subst, arith, append_assoc}
use Rattle.std.specs.Prelude.{if◌then◌else◌, ◌==◌, Option, Result, Ok, Err, OnErr}
use Rattle.std.specs.Io.KnownBytes.{Appends}
use Rattle.std.proofs.KnownBytes.{Appends-nil, Appends-trans}
use Rattle.std.proofs.lemmas.List.{append-nil, take_all, length-take}
use Rattle.std.proofs.lemmas.Bool.{le-leb}
use Rattle.std.proofs.lemmas.Bool.Decides.{leb_tells}
use Rattle.text_model.specs.Lines.{ended_from, rest_from, line_feed}
use Rattle.service_model.specs.Requests.{reading, reading_of_json, refused, line_too_long, line_limit}
use Rattle.service_model.specs.Replies as said
use Rattle.service_model.specs.Answers.{Answers, Answered}
use Rattle.service_model.specs.Runs.{is_blank_line, StepBy, Step, RunsTo, Run, last_line, request_lines}
use Rattle.session_loop.specs.Begun.{Holds, kept_limit}
use Rattle.session_loop.specs.Outcomes.{RanOver}
use Rattle.token_model.specs.Kinds.{Tok}
use Rattle.token_model.specs.Tokens.{Lex}
use Rattle.work_model.specs.Work.{Amount, Owed, WorksAt, WorksBy}
use Rattle.syntax_tree.specs.Tallies.{Tallies}
use Rattle.session.specs.Working.{alike, Carries, Held, Owes, Takes}
use Rattle.session_loop.specs.Progress.{Cut, CutShort, SoFar}
use Rattle.session_loop.specs.Spending.{LineSpends, SpendsOn, SpentOver}
use Rattle.session_loop.specs.declared.begun.Begun.{Begun}
use Rattle.session_loop.proofs.Runs.{runs_more, ended_feed, rest_feed, ended_byte, rest_byte, ended_front}
use Rattle.session_loop.proofs.Spendings.{spends_end, spends_more, spends_none, spent_cut, spent_last, spent_whole}

-- a line reads as its kept front does
same_reading : (line : List ℕ) → reading (take kept_limit line) ≡ reading line
unfolding reading
same_reading line = elim (leb_tells (length line) line_limit) [
  | inl short ↦ ap reading (take_all kept_limit line (omega (arith, short.1)))
  | inr long ↦ ap (λ b. if b then refused line_too_long else reading_of_json (take kept_limit line)) (le-leb (suc line_limit) (length (take kept_limit line)) (omega (arith, long.1, length-take kept_limit line)))
      ∙ sym (ap (λ b. if b then refused line_too_long else reading_of_json line) (le-leb (suc line_limit) (length line) (omega (arith, long.1))))
]

-- the answer to the kept front of a line that isn't blank is a step by the line
pub step_answered : (text line piece after : List ℕ) (b : Begun) → Holds b line → b.blank ≡ false → Answers text b.bytes.items piece after → Step text line piece after
unfolding Answers
step_answered text line piece after b holds none answers =
    let same : reading b.bytes.items ≡ reading line = ap reading holds.bytes ∙ same_reading line in
    let whole : Answers text line piece after = subst (λ r. Answered text r piece after ⊎ ((piece ≡ said.memory_line) × (after ≡ text))) same answers in
    subst (λ t. StepBy t text line piece after) (sym none ∙ holds.blank) whole

-- a blank line is a step that puts nothing
pub step_blank : (text line : List ℕ) (b : Begun) → Holds b line → b.blank ≡ true → Step text line [] text
step_blank text line b holds blank = subst (λ t. StepBy t text line [] text) (sym blank ∙ holds.blank) (refl, refl)

-- nothing is read for a blank line
pub blank_spends : (opens line : List ℕ) (b : Begun) (s : Held) (x : Tallies) → Holds b line → b.blank ≡ true → LineSpends opens line [] s s x x
blank_spends opens line b s x holds blank = λ w ps owes lex.
    (w, alike 0, subst (λ t. WorksBy t (length ps) w line [] w (alike 0)) (sym blank ∙ holds.blank) (refl, refl, (refl, refl)), owes, (omega arith, omega arith), λ first within. within)

-- what the kept front of a line that isn't blank may read, the line may
pub answered_spends : (opens front line piece : List ℕ) (b : Begun) (s t : Held) (x y : Tallies) → Holds b line → b.blank ≡ false → front ≡ b.bytes.items
    → ((w : Owed) (ps : List Tok) → Owes w s → Lex opens ps → (v : Owed) × (n : Amount) × WorksAt (length ps) w (reading front) piece v n × Owes v t × Takes (length ps) n s t x y × Carries w v s t x y) → LineSpends opens line piece s t x y
answered_spends opens front line piece b s t x y holds none is works = λ w ps owes lex.
    let same : reading front ≡ reading line = ap reading (is ∙ holds.bytes) ∙ same_reading line in
    let (v, n, work, owed, takes, carries) = works w ps owes lex in
    (v, n, subst (λ k. WorksBy k (length ps) w line piece v n) (sym none ∙ holds.blank) (subst (λ r. WorksAt (length ps) w r piece v n) same work), owed, takes, carries)

-- a line feed, after the line before it was answered
pub so_far_feed : (opens : List ℕ) (start x y : Tallies) (before held now : Option (List ℕ)) (taken piece : List ℕ) (s t : Held) (b c : Begun) (byte : ℕ) → byte ≡ line_feed → SoFar opens start x before held taken s b
    → Step s.text (rest_from [] taken) piece t.text → Appends held now piece → LineSpends opens (rest_from [] taken) piece s t x y → Holds c [] → SoFar opens start y before now (taken ++ byte ∷ []) t c
so_far_feed opens start x y before held now taken piece s t b c byte is so_far step puts spends holds =
    subst (λ k. SoFar opens start y before now (taken ++ k ∷ []) t c) (sym is) (record {
      out = so_far.out ++ piece;
      put = Appends-trans before held now so_far.out piece so_far.put puts;
      ran = subst (λ (ls : List (List ℕ)). RunsTo [] ls (so_far.out ++ piece) t.text) (sym (ended_feed [] taken)) (runs_more [] (ended_from [] taken) so_far.out s.text (rest_from [] taken) piece t.text so_far.ran step);
      spends = subst (λ (ls : List (List ℕ)). SpendsOn opens start y t ls (so_far.out ++ piece)) (sym (ended_feed [] taken)) (spends_more opens start x y s t (ended_from [] taken) (rest_from [] taken) so_far.out piece so_far.spends spends);
      line = subst (Holds c) (sym (rest_feed [] taken)) holds;
    })

-- the put of the answer to the line before a line feed was cut short
pub cut_feed : (opens : List ℕ) (start x y : Tallies) (before held now : Option (List ℕ)) (taken piece : List ℕ) (s t : Held) (b : Begun) (byte n : ℕ) → byte ≡ line_feed → SoFar opens start x before held taken s b
    → Step s.text (rest_from [] taken) piece t.text → Appends held now (take n piece) → LineSpends opens (rest_from [] taken) piece s t x y → Cut opens start y before now (ended_from [] (taken ++ byte ∷ []))
cut_feed opens start x y before held now taken piece s t b byte n is so_far step puts spends =
    subst (λ k. Cut opens start y before now (ended_from [] (taken ++ k ∷ []))) (sym is) (
      record {
        answered = ended_from [] taken;
        line = rest_from [] taken;
        later = [];
        front = ended_feed [] taken;
        out = so_far.out;
        text = s.text;
        ran = so_far.ran;
        piece = piece;
        after = t.text;
        step = step;
        count = n;
        put = Appends-trans before held now so_far.out (take n piece) so_far.put puts;
      },
      spent_cut opens start y before held now (ended_from [] taken) (rest_from [] taken) [] (ended_from [] (taken ++ line_feed ∷ [])) so_far.out piece n (ended_feed [] taken) so_far.put puts
          (spends_end opens start y t _ _ (spends_more opens start x y s t (ended_from [] taken) (rest_from [] taken) so_far.out piece so_far.spends spends)),
    )

-- a byte that goes on with the line
pub so_far_byte : (opens : List ℕ) (start x : Tallies) (before held : Option (List ℕ)) (taken : List ℕ) (s : Held) (b c : Begun) (byte : ℕ) → (byte == line_feed) ≡ false → SoFar opens start x before held taken s b
    → ((line : List ℕ) → Holds b line → Holds c (line ++ byte ∷ [])) → SoFar opens start x before held (taken ++ byte ∷ []) s c
so_far_byte opens start x before held taken s b c byte is so_far goes_on = record {
  out = so_far.out;
  put = so_far.put;
  ran = subst (λ (ls : List (List ℕ)). RunsTo [] ls so_far.out s.text) (sym (ended_byte [] taken byte is)) so_far.ran;
  spends = subst (λ (ls : List (List ℕ)). SpendsOn opens start x s ls so_far.out) (sym (ended_byte [] taken byte is)) so_far.spends;
  line = subst (Holds c) (sym (rest_byte [] taken byte is)) (goes_on (rest_from [] taken) so_far.line);
}

-- a run of the ended lines goes on by what stands behind them, if anything does
last_run : (lines : List (List ℕ)) (rest out text piece after : List ℕ) → RunsTo [] lines out text → Step text rest piece after → RunsTo [] (lines ++ last_line rest) (out ++ piece) after
last_run lines [] out text piece after ran step =
    subst (λ (ls : List (List ℕ)). RunsTo [] ls (out ++ piece) after) (sym (append-nil lines))
    (subst (λ (o : List ℕ). RunsTo [] lines o after) (sym (ap (λ (p : List ℕ). out ++ p) step.0 ∙ append-nil out)) (subst (λ (t : List ℕ). RunsTo [] lines out t) (sym step.1) ran))
last_run lines (b ∷ bs) out text piece after ran step = runs_more [] lines out text (b ∷ bs) piece after ran step

-- at the end of the input the last line was answered
pub finished : (opens : List ℕ) (start x y : Tallies) (before held now : Option (List ℕ)) (taken piece : List ℕ) (s t : Held) (b : Begun) → SoFar opens start x before held taken s b
    → Step s.text (rest_from [] taken) piece t.text → Appends held now piece → LineSpends opens (rest_from [] taken) piece s t x y
    → (out : List ℕ) × Run (request_lines taken) out × Appends before now out × SpentOver opens start y before now (request_lines taken)
finished opens start x y before held now taken piece s t b so_far step puts spends = (
  so_far.out ++ piece,
  (t.text, last_run (ended_from [] taken) (rest_from [] taken) so_far.out s.text piece t.text so_far.ran step),
  Appends-trans before held now so_far.out piece so_far.put puts,
  spent_last opens start x y before held now (ended_from [] taken) (rest_from [] taken) so_far.out piece s t step so_far.put puts so_far.spends spends,
)

-- the put of the answer to the last line, which isn't blank, was cut short
pub cut_last : (opens : List ℕ) (start x y : Tallies) (before held now : Option (List ℕ)) (taken piece : List ℕ) (s t : Held) (b : Begun) (n : ℕ) → SoFar opens start x before held taken s b
    → is_blank_line (rest_from [] taken) ≡ false → Step s.text (rest_from [] taken) piece t.text → Appends held now (take n piece) → LineSpends opens (rest_from [] taken) piece s t x y
    → Cut opens start y before now (request_lines taken)
cut_last opens start x y before held now taken piece s t b n so_far some step puts spends =
    cut (rest_from [] taken) some step spends
  where
    cut : (rest : List ℕ) → is_blank_line rest ≡ false → Step s.text rest piece t.text → LineSpends opens rest piece s t x y → Cut opens start y before now (ended_from [] taken ++ last_line rest)
    cut [] some step spends = cc
    cut (k ∷ ks) some step spends = (
      record {
        answered = ended_from [] taken;
        line = k ∷ ks;
        later = [];
        front = refl;
        out = so_far.out;
        text = s.text;
        ran = so_far.ran;
        piece = piece;
        after = t.text;
        step = step;
        count = n;
        put = Appends-trans before held now so_far.out (take n piece) so_far.put puts;
      },
      spent_cut opens start y before held now (ended_from [] taken) (k ∷ ks) [] (ended_from [] taken ++ (k ∷ ks) ∷ []) so_far.out piece n refl so_far.put puts
          (spends_end opens start y t _ _ (spends_more opens start x y s t (ended_from [] taken) (k ∷ ks) so_far.out piece so_far.spends spends)),
    )

-- more lines behind those that begin with others
lines_behind : (answered later ended last : List (List ℕ)) (line : List ℕ) → ((answered ++ line ∷ later) ++ ended) ++ last ≡ answered ++ line ∷ (later ++ (ended ++ last))
lines_behind answered later ended last line = append_assoc (answered ++ line ∷ later) ended last ∙ append_assoc answered (line ∷ later) (ended ++ last)

-- a cut over the lines of a front of the input is one over the lines of the whole
pub cut_within : (before now : Option (List ℕ)) (front back : List ℕ) → CutShort before now (ended_from [] front) → CutShort before now (request_lines (front ++ back))
cut_within before now front back cut =
    let last = last_line (rest_from [] (front ++ back)) in
    let ended = ended_from (rest_from [] front) back in
    let whole : request_lines (front ++ back) ≡ cut.answered ++ cut.line ∷ (cut.later ++ (ended ++ last)) =
    ap (λ (ls : List (List ℕ)). ls ++ last) (ended_front [] front back ∙ ap (λ (ls : List (List ℕ)). ls ++ ended) cut.front) ∙ lines_behind cut.answered cut.later ended last cut.line in
    record {
      answered = cut.answered;
      line = cut.line;
      later = cut.later ++ (ended ++ last);
      front = whole;
      out = cut.out;
      text = cut.text;
      ran = cut.ran;
      piece = cut.piece;
      after = cut.after;
      step = cut.step;
      count = cut.count;
      put = cut.put;
    }

-- what was answered of the lines of a front of the input was of the lines of the whole
pub spent_within : (opens : List ℕ) (start y : Tallies) (before now : Option (List ℕ)) (front back : List ℕ) → SpentOver opens start y before now (ended_from [] front) → SpentOver opens start y before now (request_lines (front ++ back))
spent_within opens start y before now front back spent =
    let last = last_line (rest_from [] (front ++ back)) in
    let ended = ended_from (rest_from [] front) back in
    record {
      answered = spent.answered;
      later = (spent.later ++ ended) ++ last;
      front = ap (λ (ls : List (List ℕ)). ls ++ last) (ended_front [] front back ∙ ap (λ (ls : List (List ℕ)). ls ++ ended) spent.front ∙ append_assoc spent.answered spent.later ended)
          ∙ append_assoc spent.answered (spent.later ++ ended) last;
      out = spent.out;
      count = spent.count;
      put = spent.put;
      spends = spent.spends;
    }

-- before the first byte
pub started : (opens : List ℕ) (x : Tallies) (held : Option (List ℕ)) (s : Held) (b : Begun) → Holds b [] → s.text ≡ [] → s.begun ≡ false → SoFar opens x x held held [] s b
started opens x held s b holds text begun = record {
  out = [];
  put = Appends-nil held;
  ran = (refl, text);
  spends = spends_none opens x s text begun;
  line = holds;
}

-- what holds anyway holds at an error
pub on_err : {T E P : Type 0} (r : Result T E) → P → OnErr r P
on_err (Ok x) p = tt
on_err (Err e) p = p

-- so far the bytes put are those of a run over the ended lines
pub ran_over : (opens : List ℕ) (start x : Tallies) (before now : Option (List ℕ)) (taken : List ℕ) (s : Held) (b : Begun) → SoFar opens start x before now taken s b → RanOver before now (ended_from [] taken)
ran_over opens start x before now taken s b so_far = (so_far.out, (s.text, so_far.ran), so_far.put)

-- and so far these were answered
pub spent_so_far : (opens : List ℕ) (start x : Tallies) (before now : Option (List ℕ)) (taken : List ℕ) (s : Held) (b : Begun) → SoFar opens start x before now taken s b → SpentOver opens start x before now (ended_from [] taken)
spent_so_far opens start x before now taken s b so_far =
    spent_whole opens start x before now (ended_from [] taken) (ended_from [] taken) [] so_far.out (sym (append-nil (ended_from [] taken))) so_far.put (spends_end opens start x s (ended_from [] taken) so_far.out so_far.spends)
