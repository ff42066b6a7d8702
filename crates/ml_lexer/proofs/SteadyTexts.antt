-- How far strings, quoted strings and what else begins with `{` are looked at.
use Rattle.std.proofs.Common.{◌≡◌, ◌+◌, ◌≤◌, ◌<◌, ◌∷◌, [], ℕ, List, true, false, take, drop, length, get_or, sym, subst, ap, ◌∙◌, arith, refl, Option, Some, None, length-drop}
use Rattle.std.specs.Prelude.{if◌then◌else◌, ◌==◌}
use Rattle.std.proofs.lemmas.Bool.{eqb-true}
use Rattle.token_model.specs.Kinds.{outside, left_brace}
use Rattle.token_model.specs.Bytes.{is_lower}
use Rattle.token_model.specs.Spellings.{closing}
use Rattle.ml_lexer.specs.Scans.{found, run_end, string_end, string_found, quote_found, quoted_id, opens_quoted, quoted_end, brace_found}
use Rattle.ml_lexer.specs.Reaches.{string_reach, quote_reach, brace_reach}
use Rattle.ml_lexer.proofs.Runs.{run_le}
use Rattle.ml_lexer.proofs.Literals.{string_end_is, string_end_found, word_end_found}
use Rattle.ml_lexer.proofs.Quoted.{quoted_is, quoted_found}
use Rattle.ml_lexer.proofs.Agree.{agree_get, agree_drop, agree_end, agree_whole, Keeps, Steady, steady_if, byte_keeps}
use Rattle.ml_lexer.proofs.SteadyTicks.{front_there, first_fails, second_byte}

-- a string whose end is the same, or which has none in the whole text
string_steady : (end : List ℕ → Option ℕ) (bs : List ℕ) → ((n : ℕ) → end bs ≡ Some n → Keeps end n bs) → Steady (λ l. string_found (end l) l) (λ l. string_reach (end l) l) bs
string_steady end bs keeps cs =
    elim (end bs) as (λ o. end bs ≡ o → take (string_reach o bs) bs ≡ take (string_reach o bs) cs → (string_found (end cs) cs ≡ string_found o bs) × (string_reach (end cs) cs ≡ string_reach o bs)) [
      | Some n ↦ λ is. λ e. let same : end cs ≡ Some n = keeps n is cs e ∙ is in (ap (λ o. string_found o cs) same, ap (λ o. string_reach o cs) same)
      | None ↦ λ is. λ e.
          let whole : cs ≡ bs = sym (agree_whole (length bs + 1) bs cs (omega arith) e) in
          (ap (λ (l : List ℕ). string_found (end l) l) whole ∙ ap (λ o. string_found o bs) is, ap (λ (l : List ℕ). string_reach (end l) l) whole ∙ ap (λ o. string_reach o bs) is)
    ] refl

-- the end of a string is the same
end_keeps : (bs : List ℕ) (n : ℕ) → string_end false 1 (drop 1 bs) ≡ Some n → Keeps (λ l. string_end false 1 (drop 1 l)) n bs
end_keeps bs n is cs e =
    let there = string_end_found false 1 n (drop 1 bs) is in
    let near : take (1 + length there.0) bs ≡ take (1 + length there.0) cs = subst (λ k. take k bs ≡ take k cs) there.4 e in
    let front = front_there there.0 there.1 (drop 1 bs) (drop 1 cs) there.2 (agree_drop 1 (length there.0) bs cs near) in
    ap (string_end false 1) front ∙ string_end_is there.0 (drop (length there.0) (drop 1 cs)) 1 there.3 ∙ ap (λ k. Some k) (sym there.4) ∙ sym is

-- what begins with the quote of a string
pub quote_steady : (bs : List ℕ) → Steady quote_found quote_reach bs
unfolding quote_found quote_reach
quote_steady bs = string_steady (λ l. string_end false 1 (drop 1 l)) bs (end_keeps bs)

-- the end of a quoted string is the same
pub quoted_keeps : (bs : List ℕ) → get_or bs 0 0 ≡ 123 → opens_quoted bs ≡ true → (n : ℕ) → quoted_end bs ≡ Some n → Keeps quoted_end n bs
quoted_keeps bs first opened n is cs e =
    let there = quoted_found bs n first opened is in
    let near : take (length there.0) bs ≡ take (length there.0) cs = subst (λ k. take k bs ≡ take k cs) there.4 e in
    ap quoted_end (front_there there.0 there.1 bs cs there.2 near) ∙ (quoted_is there.0 (drop (length there.0) cs) there.3).2 ∙ ap (λ k. Some k) (sym there.4) ∙ sym is

-- the end of the letters behind `{`
abbrev id_end : List ℕ → ℕ
id_end l = run_end is_lower 1 l

-- these letters end in the list
id_within : (l : List ℕ) → 0 < length l → id_end l ≤ length l
id_within l some = omega (arith, run_le is_lower (drop 1 l), length-drop 1 l)

-- whether a quoted string opens is decided by the letters and the byte behind them
pub opens_keeps : (r : ℕ) (bs : List ℕ) → id_end bs < r → Keeps opens_quoted r bs
opens_keeps r bs h cs e = ap (λ k. get_or cs k 0 == 124) (agree_end is_lower 1 r bs cs e h) ∙ ap (λ b. b == 124) (agree_get r (id_end bs) bs cs h e)

-- a quoted string ends behind its id
quoted_long : (l : List ℕ) → 0 < length l → id_end l + 1 ≤ string_reach (quoted_end l) l
quoted_long l some = elim (quoted_end l) as (λ o. quoted_end l ≡ o → id_end l + 1 ≤ string_reach o l) [
  | Some n ↦ λ is. let there = word_end_found (closing (quoted_id l)) (id_end l + 1) n (drop (id_end l + 1) l) is in omega (arith, there.4)
  | None ↦ λ is. omega (arith, id_within l some)
] refl

-- what begins with `{` and opens no quoted string
abbrev bare_reach : List ℕ → ℕ
bare_reach l = if get_or l 1 0 == 60 then 2 else id_end l + 1

-- the byte behind the letters is looked at
bare_long : (l : List ℕ) → id_end l + 1 ≤ bare_reach l
bare_long l = elim (get_or l 1 0 == 60) as (λ t. (get_or l 1 0 == 60) ≡ t → id_end l + 1 ≤ (if t then 2 else id_end l + 1)) [
  | true ↦ λ is.
      let byte : get_or (drop 1 l) 0 0 ≡ 60 = second_byte l ∙ eqb-true (get_or l 1 0) 60 is in
      omega (arith, first_fails is_lower (drop 1 l) (ap is_lower byte))
  | false ↦ λ is. omega arith
] refl

-- a list whose first byte is known has a byte
some_first : (l : List ℕ) (b : ℕ) → get_or l 0 0 ≡ b → 0 < b → 0 < length l
some_first [] b is some = absurd (omega (arith, is))
some_first (c ∷ l) b is some = omega arith

-- what begins with a brace
pub brace_steady : (bs : List ℕ) → get_or bs 0 0 ≡ 123 → Steady brace_found brace_reach bs
unfolding brace_found brace_reach
brace_steady bs first =
    let some = some_first bs 123 first (omega arith) in
    steady_if opens_quoted (λ l. string_found (quoted_end l) l) (λ l. if get_or l 1 0 == 60 then found outside 2 else found left_brace 1) (λ l. string_reach (quoted_end l) l) bare_reach bs
    (λ _. opens_keeps (string_reach (quoted_end bs) bs) bs (omega (arith, quoted_long bs some)))
    (λ _. opens_keeps (bare_reach bs) bs (omega (arith, bare_long bs)))
    (λ opened. string_steady quoted_end bs (quoted_keeps bs first opened))
    (λ _. steady_if (λ l. get_or l 1 0 == 60) (λ _. found outside 2) (λ _. found left_brace 1) (λ _. 2) (λ l. id_end l + 1) bs
    (λ _. byte_keeps (λ b. b == 60) 1 2 bs (omega arith))
    (λ _. byte_keeps (λ b. b == 60) 1 (id_end bs + 1) bs (omega arith))
    (λ _. λ cs e. (refl, refl))
    (λ _. λ cs e. (refl, ap (λ k. k + 1) (agree_end is_lower 1 (id_end bs + 1) bs cs e (omega arith)))))
