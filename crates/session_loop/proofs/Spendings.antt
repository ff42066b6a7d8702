-- A run's work goes on by a line.
use Rattle.std.proofs.Common.{◌≡◌, ℕ, suc, ◌+◌, List, [], ◌∷◌, ◌++◌, length, take, false, Option, Some, None, IfSome, refl, sym, ◌∙◌, ap, subst, arith, append_assoc}
use Rattle.std.specs.Io.KnownBytes.{Appends}
use Rattle.std.proofs.KnownBytes.{Appends-nil, Appends-trans}
use Rattle.std.proofs.lemmas.List.{append-nil, take_all}
use Rattle.service_model.specs.Runs.{is_blank_line, last_line, request_lines, Step}
use Rattle.work_model.specs.Work.{at_first, Amount, Owed, RetypedOver, RunWorks, WorksBy}
use Rattle.syntax_tree.specs.Tallies.{Tallies}
use Rattle.text_reading.specs.Types.{opening}
use Rattle.session.specs.Working.{alike, Held}
use Rattle.session_loop.specs.Spending.{LineSpends, Spends, SpendsOn, SpentOver}

-- two amounts together
abbrev both : Amount → Amount → Amount
both n m = record { lexed = n.lexed + m.lexed; shifted = n.shifted + m.shifted }

-- one line more
works_more : (p : ℕ) (w : Owed) (lines : List (List ℕ)) (out : List ℕ) (mid : Owed) (line piece : List ℕ) (new : Owed) (n m : Amount) → RunWorks p w lines out mid n → WorksBy (is_blank_line line) p mid line piece new m
    → RunWorks p w (lines ++ line ∷ []) (out ++ piece) new (both n m)
works_more p w [] out mid line piece new n m (none, same, zero) works = (
  piece,
  new,
  [],
  m,
  alike 0,
  subst (λ (x : Owed). WorksBy (is_blank_line line) p x line piece new m) same works,
  (refl, refl, (refl, refl)),
  ap (λ (o : List ℕ). o ++ piece) none ∙ sym (append-nil piece),
  (omega (arith, zero.0), omega (arith, zero.1)),
)
works_more p w (l ∷ lines) out mid line piece new n m (first, next, rest, here, later, works_first, ran, is, count) works = (
  first,
  next,
  rest ++ piece,
  here,
  both later m,
  works_first,
  works_more p next lines rest mid line piece new later m ran works,
  ap (λ (o : List ℕ). o ++ piece) is ∙ append_assoc first rest piece,
  (omega (arith, count.0), omega (arith, count.1)),
)

pub spends_more : (opens : List ℕ) (start x y : Tallies) (s t : Held) (lines : List (List ℕ)) (line out piece : List ℕ) → SpendsOn opens start x s lines out → LineSpends opens line piece s t x y
    → SpendsOn opens start y t (lines ++ line ∷ []) (out ++ piece)
spends_more opens start x y s t lines line out piece spends more = λ ps lex.
    let (v, n, ran, owes, lexed, shifted, within) = spends ps lex in
    let (u, m, works, owed, takes, carries) = more v ps owes lex in
    (u, both n m, works_more (length ps) at_first lines out v line piece u n m ran works, owed, omega (arith, lexed, takes.0), omega (arith, shifted, takes.1), carries start.typed within)

pub spends_end : (opens : List ℕ) (start x : Tallies) (s : Held) (lines : List (List ℕ)) (out : List ℕ) → SpendsOn opens start x s lines out → Spends opens start x lines out
spends_end opens start x s lines out spends = λ ps lex. let (v, n, ran, owes, lexed, shifted, within) = spends ps lex in (v, n, ran, omega (arith, lexed), omega (arith, shifted), λ m over. (within m over).within)

take_none : {T : Type 0} (xs : List T) → take 0 xs ≡ []
take_none [] = refl
take_none (x ∷ xs) = refl

-- before the first line
pub spends_none : (opens : List ℕ) (x : Tallies) (s : Held) → s.text ≡ [] → s.begun ≡ false → SpendsOn opens x x s [] []
spends_none opens x s text begun = λ ps lex. (
  at_first,
  alike 0,
  (refl, refl, (refl, refl)),
  record { text = sym text; noted = λ n is. (0, refl, omega arith) },
  omega (arith, ap (opening (length ps)) begun),
  omega (arith, ap (opening (length ps)) begun),
  λ m none. record { within = omega arith; front = λ items empty. (0, record { left = omega arith; right = omega arith; same = take_none s.holds ∙ sym (take_none items) }, omega (arith, ap length empty)) },
)

-- all of the bytes were put
pub spent_whole : (opens : List ℕ) (start x : Tallies) (before now : Option (List ℕ)) (lines answered later : List (List ℕ)) (out : List ℕ) → lines ≡ answered ++ later → Appends before now out → Spends opens start x answered out
    → SpentOver opens start x before now lines
spent_whole opens start x before now lines answered later out front put spends = record {
  answered = answered;
  later = later;
  front = front;
  out = out;
  count = length out;
  put = subst (Appends before now) (sym (take_all (length out) out (omega arith))) put;
  spends = spends;
}

-- the front of what is behind the front of a list
take_behind : (out piece : List ℕ) (n : ℕ) → take (length out + n) (out ++ piece) ≡ out ++ take n piece
take_behind [] piece n = ap (λ k. take k piece) none
  where
    none : 0 + n ≡ n
    none = omega arith
take_behind (b ∷ out) piece n = ap (λ k. take k (b ∷ (out ++ piece))) more ∙ ap (λ (l : List ℕ). b ∷ l) (take_behind out piece n)
  where
    more : length (b ∷ out) + n ≡ suc (length out + n)
    more = omega arith

-- of the bytes of the last line only some were put
pub spent_cut : (opens : List ℕ) (start y : Tallies) (before held now : Option (List ℕ)) (lines : List (List ℕ)) (line : List ℕ) (later all : List (List ℕ)) (out piece : List ℕ) (n : ℕ) → all ≡ lines ++ line ∷ later
    → Appends before held out → Appends held now (take n piece) → Spends opens start y (lines ++ line ∷ []) (out ++ piece) → SpentOver opens start y before now all
spent_cut opens start y before held now lines line later all out piece n front put puts spends = record {
  answered = lines ++ line ∷ [];
  later = later;
  front = front ∙ sym (append_assoc lines (line ∷ []) later);
  out = out ++ piece;
  count = length out + n;
  put = subst (Appends before now) (sym (take_behind out piece n)) (Appends-trans before held now out (take n piece) put puts);
  spends = spends;
}

-- the last line was answered, if there is one
pub spent_last : (opens : List ℕ) (start x y : Tallies) (before held now : Option (List ℕ)) (lines : List (List ℕ)) (rest out piece : List ℕ) (s t : Held) → Step s.text rest piece t.text → Appends before held out → Appends held now piece
    → SpendsOn opens start x s lines out → LineSpends opens rest piece s t x y → SpentOver opens start y before now (lines ++ last_line rest)
spent_last opens start x y before held now lines [] out piece s t step put puts spends more = record {
  answered = lines;
  later = [];
  front = refl;
  out = out;
  count = length out;
  put = subst (Appends before now) (ap (λ (p : List ℕ). out ++ p) step.0 ∙ append-nil out ∙ sym (take_all (length out) out (omega arith))) (Appends-trans before held now out piece put puts);
  spends = λ ps lex.
      let (v, n, ran, owes, lexed, shifted, within) = spends ps lex in
      let (u, m, works, owed, takes, carries) = more v ps owes lex in
      (v, n, ran, omega (arith, lexed, takes.0, works.2.0), omega (arith, shifted, takes.1, works.2.1), λ k over. (carries start.typed within k (subst (λ (o : Owed). RetypedOver o.asked k) (sym works.1) over)).within);
}
spent_last opens start x y before held now lines (b ∷ bs) out piece s t step put puts spends more =
    spent_whole opens start y before now (lines ++ (b ∷ bs) ∷ []) (lines ++ (b ∷ bs) ∷ []) [] (out ++ piece) (sym (append-nil (lines ++ (b ∷ bs) ∷ []))) (Appends-trans before held now out piece put puts)
    (spends_end opens start y t (lines ++ (b ∷ bs) ∷ []) (out ++ piece) (spends_more opens start x y s t lines (b ∷ bs) out piece spends more))

-- nothing was answered
pub spent_none : (opens : List ℕ) (x : Tallies) (left held : Option (List ℕ)) → IfSome left (λ input. SpentOver opens x x held held (request_lines input))
spent_none opens x None held = tt
spent_none opens x (Some input) held = record {
  answered = [];
  later = request_lines input;
  front = refl;
  out = [];
  count = 0;
  put = Appends-nil held;
  spends = λ ps lex. (at_first, alike 0, (refl, refl, (refl, refl)), omega arith, omega arith, λ m none. omega arith);
}
