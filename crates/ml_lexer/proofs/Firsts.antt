-- The first token of a text at or behind a place.
use Rattle.std.proofs.Common.{◌≡◌, ◌+◌, ◌≤◌, ◌<◌, ◌++◌, ◌∷◌, [], ℕ, List, take, drop, length, sym, subst, arith, ap, ◌∙◌, append-nil, append_assoc, length-take, length-drop, Some, None, map}
use Rattle.std.specs.Str.{IsUtf8, IsCharBoundary}
use Rattle.std.proofs.lemmas.List.{take-append-drop, drop-drop}
use Rattle.std.proofs.lemmas.Str.{IsUtf8-drop, IsCharBoundary-from_drop}
use Rattle.token_model.specs.Kinds.{Tok, AllWithin}
use Rattle.syntax_tree.specs.View.{tok_of}
use Rattle.syntax_tree.specs.declared.tree.Token.{Token}
use Rattle.token_model.specs.Tokens.{Gap, FirstToken, LexFrom, Lex, column}
use Rattle.ml_lexer.specs.Founds.{placed_tok}
use Rattle.ml_lexer.specs.Scans.{Found}
use Rattle.ml_lexer.proofs.Standing.{StandsAt}
use Rattle.ml_lexer.proofs.Utf8.{rest_text, name_text, gap_text}

both_parts : (n : ℕ) (l : List ℕ) → take n l ++ drop n l ≡ l
both_parts n l = take-append-drop n l

-- what stands behind a gap, with its column, is the first token
pub first_found : (text : List ℕ) (at i col : ℕ) (f : Found) → col ≡ column text (at + i) → at ≤ length text → i < length (drop at text) → Gap (drop at text) (drop i (drop at text)) → StandsAt (drop i (drop at text)) f → f.size ≤ length (drop i (drop at text))
    → FirstToken text at (Some (placed_tok (at + i) col f (drop i (drop at text))))
unfolding FirstToken
first_found text at i col f column inside there gap stands fits =
    let here = drop i (drop at text) in
    let cut = both_parts f.size here in (
      record {
        spelled = take f.size here;
        rest = drop f.size here;
        gap = subst (λ (l : List ℕ). Gap (drop at text) l) (sym cut) gap;
        stands = stands;
        start = omega (arith, ap length cut, length-drop i (drop at text));
        end = omega (arith, length-take f.size here);
      },
      column,
    )

-- a token has the column of its place
pub first_col : (text : List ℕ) (at : ℕ) (t : Tok) → FirstToken text at (Some t) → t.col ≡ column text t.start
unfolding FirstToken
first_col text at t first = first.1

-- none is left behind a gap up to the end
pub none_found : (text : List ℕ) (at : ℕ) → Gap (drop at text) [] → FirstToken text at None
unfolding FirstToken
none_found text at gap = (gap, tt)

-- what stands behind the gap is a text, and so are the token's name and what stands behind the token
pub here_text : (text : List ℕ) (at i : ℕ) → IsUtf8 text → IsCharBoundary text at → Gap (drop at text) (drop i (drop at text)) → IsUtf8 (drop i (drop at text))
here_text text at i utf8 cut gap = gap_text gap (IsUtf8-drop text at utf8 cut)

pub found_name : (here : List ℕ) (f : Found) → IsUtf8 here → StandsAt here f → IsUtf8 (take f.name_size (drop f.name_start here))
found_name here f utf8 stands = name_text stands (subst (λ (l : List ℕ). IsUtf8 l) (sym (both_parts f.size here)) utf8)

pub end_boundary : (text : List ℕ) (at i : ℕ) (f : Found) → at ≤ length text → i < length (drop at text) → IsUtf8 (drop i (drop at text)) → StandsAt (drop i (drop at text)) f → f.size ≤ length (drop i (drop at text)) → IsCharBoundary text (at + i + f.size)
end_boundary text at i f inside there utf8 stands fits =
    let here = drop i (drop at text) in
    let tail = rest_text stands (subst (λ (l : List ℕ). IsUtf8 l) (sym (both_parts f.size here)) utf8) in
    let place : drop f.size here ≡ drop (at + i + f.size) text = ap (λ (l : List ℕ). drop f.size l) (drop-drop i at text) ∙ drop-drop f.size (at + i) text in
    IsCharBoundary-from_drop text (at + i + f.size) (omega (arith, length-drop i (drop at text), length-drop at text)) (subst (λ (l : List ℕ). IsUtf8 l) place tail)

-- the tokens so far, and one more
pub lex_more : (text : List ℕ) (at : ℕ) (t : Tok) (before : List Tok) → FirstToken text at (Some t) → ((more : List Tok) → LexFrom text at more → LexFrom text 0 (before ++ more)) → (more : List Tok) → LexFrom text t.end more → LexFrom text 0 ((before ++ t ∷ []) ++ more)
lex_more text at t before first so_far more rest = subst (λ (l : List Tok). LexFrom text 0 l) (sym (append_assoc before (t ∷ []) more)) (so_far (t ∷ more) (first, rest))

pub lex_done : (text : List ℕ) (at : ℕ) (tokens : List Tok) → FirstToken text at None → ((more : List Tok) → LexFrom text at more → LexFrom text 0 (tokens ++ more)) → Lex text tokens
unfolding Lex
lex_done text at tokens none so_far = subst (λ (l : List Tok). LexFrom text 0 l) (append-nil tokens) (so_far [] none)

-- the same, where what stands behind the gap and its place have names of their own
pub first_at : (text here : List ℕ) (at i place col : ℕ) (f : Found) → col ≡ column text place → at ≤ length text → i < length (drop at text) → Gap (drop at text) (drop i (drop at text)) → here ≡ drop i (drop at text) → place ≡ at + i → StandsAt here f → f.size ≤ length here → FirstToken text at (Some (placed_tok place col f here))
first_at text here at i place col f has inside there gap is at_place stands fits =
    subst (λ k. FirstToken text at (Some (placed_tok k col f here))) (sym at_place) (subst (λ (l : List ℕ). FirstToken text at (Some (placed_tok (at + i) col f l))) (sym is)
    (first_found text at i col f (has ∙ ap (column text) at_place) inside there gap (subst (λ (l : List ℕ). StandsAt l f) is stands) (subst (λ (l : List ℕ). f.size ≤ length l) is fits)))

pub end_at : (text here : List ℕ) (at i last : ℕ) (f : Found) → at ≤ length text → i < length (drop at text) → IsUtf8 here → here ≡ drop i (drop at text) → StandsAt here f → f.size ≤ length here → last ≡ at + i + f.size → IsCharBoundary text last
end_at text here at i last f inside there utf8 is stands fits at_last =
    subst (λ k. IsCharBoundary text k) (sym at_last) (end_boundary text at i f inside there (subst (λ (l : List ℕ). IsUtf8 l) is utf8) (subst (λ (l : List ℕ). StandsAt l f) is stands) (subst (λ (l : List ℕ). f.size ≤ length l) is fits))

-- one more token within the text
pub within_more : (n : ℕ) (ts : List Token) (t : Token) → AllWithin n (map tok_of ts) → t.span.start ≤ n → t.span.end ≤ n → AllWithin n (map tok_of (ts ++ t ∷ []))
within_more n [] t all start end = (start, end, tt)
within_more n (u ∷ ts) t all start end = (all.0, all.1, within_more n ts t all.2 start end)
