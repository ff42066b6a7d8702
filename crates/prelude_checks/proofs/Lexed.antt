-- The tokens of a text without comments, one after the other.
use Rattle.std.proofs.Common.{◌≡◌, ℕ, zero, suc, ◌+◌, ◌<◌, ◌≤◌, nat_le, Bool, true, false, List, [], ◌∷◌, length, take, drop, Option, Some, None, refl, sym, ◌∙◌, ap, subst, arith, length-drop, if◌then◌else◌}
use Rattle.std.proofs.lemmas.Bool.{leb-true}
use Rattle.std.proofs.lemmas.List.{drop-drop}
use Rattle.token_model.specs.Bytes.{is_blank, begins}
use Rattle.token_model.specs.Comments.{begins_comment}
use Rattle.token_model.specs.Kinds.{Tok}
use Rattle.token_model.specs.Tokens.{Gap, no_gap, blank, FirstToken, LexFrom, column_from, column}
use Rattle.ml_lexer.proofs.Columns.{column_next}
use Rattle.ml_lexer.specs.Scans.{run_length, Found, found_from}
use Rattle.ml_lexer.specs.Founds.{placed_tok}
use Rattle.ml_lexer.proofs.Runs.{run_stops}
use Rattle.ml_lexer.proofs.Standing.{StandsAt, found_stands}
use Rattle.ml_lexer.proofs.Firsts.{first_found, none_found}

abbrev blanks : List ℕ → ℕ
blanks bs = run_length is_blank bs

abbrev cons_some : Tok → Option (List Tok) → Option (List Tok)
cons_some t o = elim o [ None ↦ None | Some ts ↦ Some (t ∷ ts) ]

-- a token that is found at the front of some bytes, if it ends among them, and those behind; `col` is its column
abbrev placed : (ℕ → ℕ → List ℕ → Option (List Tok)) → ℕ → ℕ → List ℕ → Found → Option (List Tok)
placed further at col here f = if nat_le f.size (length here) then cons_some (placed_tok at col f here) (further (at + f.size) (column_from col (take f.size here)) (drop f.size here)) else None

abbrev from_here : (ℕ → ℕ → List ℕ → Option (List Tok)) → ℕ → ℕ → List ℕ → Option (List Tok)
from_here further at col [] = Some []
from_here further at col (b ∷ rest) = if begins_comment (b ∷ rest) then None else placed further at col (b ∷ rest) (found_from b (b ∷ rest))

-- the tokens of some bytes at a place and in a column, at most so many
abbrev pub scan : ℕ → ℕ → ℕ → List ℕ → Option (List Tok)
scan zero at col bs = None
scan (suc n) at col bs = from_here (scan n) (at + blanks bs) (column_from col (take (blanks bs) bs)) (drop (blanks bs) bs)

one_more : (n : ℕ) → suc n ≡ n + 1
one_more n = omega arith

-- blanks are a gap
past_blanks : (bs : List ℕ) → Gap bs (drop (blanks bs) bs)
past_blanks [] = no_gap
past_blanks (b ∷ bs) = by (is_blank b) refl (past_blanks bs)
  where
    by : (x : Bool) → is_blank b ≡ x → Gap bs (drop (blanks bs) bs) → Gap (b ∷ bs) (drop (if x then blanks bs + 1 else 0) (b ∷ bs))
    by true e g = subst (λ n. Gap (b ∷ bs) (drop n (b ∷ bs))) (one_more (blanks bs)) (blank e g)
    by false e g = no_gap

some_one : (ts us : List Tok) → ◌≡◌ {A = Option (List Tok)} (Some ts) (Some us) → ts ≡ us
some_one ts us e = cc e

none_some : (us : List Tok) → ◌≡◌ {A = Option (List Tok)} None (Some us) → ⊥
none_some us e = cc e

-- the tokens from a place on are what is scanned there
abbrev Scanned : ℕ → List ℕ → Type 0
Scanned n text = (at col : ℕ) (ts : List Tok) → col ≡ column text at → at ≤ length text → scan n at col (drop at text) ≡ Some ts → LexFrom text at ts

at_token : (n : ℕ) (text : List ℕ) (at i b col : ℕ) (rest : List ℕ) (f : Found) (ts : List Tok) → col ≡ column text (at + i) → at ≤ length text → drop i (drop at text) ≡ b ∷ rest → Gap (drop at text) (drop i (drop at text)) →
    StandsAt (drop i (drop at text)) f → Scanned n text → placed (scan n) (at + i) col (b ∷ rest) f ≡ Some ts → LexFrom text at ts
at_token n text at i b col rest f ts has inside h gap stands further e = by_size (nat_le f.size (length (b ∷ rest))) refl e
  where
    t : Tok
    t = placed_tok (at + i) col f (b ∷ rest)

    behind : ℕ
    behind = column_from col (take f.size (b ∷ rest))

    there : drop (at + i) text ≡ b ∷ rest
    there = sym (drop-drop i at text) ∙ h

    next_col : behind ≡ column text (at + i + f.size)
    next_col = column_next text (at + i) f.size (at + i + f.size) col behind has (ap (λ l. column_from col (take f.size l)) (sym there)) refl

    next : drop (at + i + f.size) text ≡ drop f.size (b ∷ rest)
    next = sym (ap (drop f.size) (sym h) ∙ ap (drop f.size) (drop-drop i at text) ∙ drop-drop f.size (at + i) text)

    by_rest : f.size ≤ length (b ∷ rest) → (o : Option (List Tok)) → scan n (at + i + f.size) behind (drop f.size (b ∷ rest)) ≡ o → cons_some t o ≡ Some ts → LexFrom text at ts
    by_rest fits None g e = absurd (none_some ts e)
    by_rest fits (Some us) g e =
        let size : f.size ≤ length (drop i (drop at text)) = subst (λ l. f.size ≤ length l) (sym h) fits in
        let some : 0 < length (drop i (drop at text)) = subst (λ l. 0 < length l) (sym h) (omega arith) in
        let first : FirstToken text at (Some (placed_tok (at + i) col f (drop i (drop at text)))) =
        first_found text at i col f has inside (omega (arith, some, length-drop i (drop at text))) gap stands size in
        let here : FirstToken text at (Some t) = subst (λ l. FirstToken text at (Some (placed_tok (at + i) col f l))) h first in
        let later : LexFrom text (at + i + f.size) us =
        further (at + i + f.size) behind us next_col (omega (arith, size, some, length-drop i (drop at text), length-drop at text)) (ap (scan n (at + i + f.size) behind) next ∙ g) in
        subst (LexFrom text at) (some_one (t ∷ us) ts e) (here, later)

    by_size : (x : Bool) → nat_le f.size (length (b ∷ rest)) ≡ x → (if x then cons_some t (scan n (at + i + f.size) behind (drop f.size (b ∷ rest))) else None) ≡ Some ts → LexFrom text at ts
    by_size true g e = by_rest (leb-true f.size (length (b ∷ rest)) g) (scan n (at + i + f.size) behind (drop f.size (b ∷ rest))) refl e
    by_size false g e = absurd (none_some ts e)

at_here : (n : ℕ) (text : List ℕ) (at i col : ℕ) (here : List ℕ) (ts : List Tok) → col ≡ column text (at + i) → at ≤ length text → drop i (drop at text) ≡ here → Gap (drop at text) (drop i (drop at text)) → begins is_blank here ≡ false → Scanned n text →
    from_here (scan n) (at + i) col here ≡ Some ts → LexFrom text at ts
at_here n text at i col [] ts has inside h gap no_blank further e = subst (LexFrom text at) (some_one [] ts e) (none_found text at (subst (Gap (drop at text)) h gap))
at_here n text at i col (b ∷ rest) ts has inside h gap no_blank further e = by (begins_comment (b ∷ rest)) refl e
  where
    by : (x : Bool) → begins_comment (b ∷ rest) ≡ x → (if x then None else placed (scan n) (at + i) col (b ∷ rest) (found_from b (b ∷ rest))) ≡ Some ts → LexFrom text at ts
    by true g e = absurd (none_some ts e)
    by false g e =
        at_token n text at i b col rest (found_from b (b ∷ rest)) ts has inside h gap
        (subst (λ l. StandsAt l (found_from b (b ∷ rest))) (sym h) (found_stands (b ∷ rest) (omega arith) no_blank g)) further e

pub scanned : (n : ℕ) (text : List ℕ) (at col : ℕ) (ts : List Tok) → col ≡ column text at → at ≤ length text → scan n at col (drop at text) ≡ Some ts → LexFrom text at ts
scanned zero text at col ts has inside e = absurd (none_some ts e)
scanned (suc n) text at col ts has inside e =
    let k = blanks (drop at text) in
    let c = column_from col (take k (drop at text)) in
    at_here n text at k c (drop k (drop at text)) ts (column_next text at k (at + k) col c has refl refl) inside refl (past_blanks (drop at text)) (run_stops is_blank (drop at text)) (λ at col ts has inside e. scanned n text at col ts has inside e) e
