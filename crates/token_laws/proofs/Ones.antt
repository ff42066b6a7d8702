-- A text has one list of tokens.
use Rattle.std.proofs.Common.{◌≡◌, ◌++◌, ◌∷◌, [], ℕ, List, true, false, drop, length, sym, subst, arith, refl, ap, ◌∙◌, append-nil, length-append, Some, None}
use Rattle.std.specs.List.{list_all}
use Rattle.token_model.specs.Bytes.{continues, begins}
use Rattle.token_model.specs.Kinds.{Kind, Tok}
use Rattle.token_model.specs.Spellings.{Spells}
use Rattle.token_model.specs.Tokens.{Gap, IsUnclosed, Stands, unclosed, longest, stray, IsFirst, FirstToken, LexFrom, Lex, column}
use Rattle.ml_lexer.specs.Scans.{run_length}
use Rattle.ml_lexer.proofs.Runs.{run_exact}
use Rattle.ml_lexer.proofs.OneGap.{IsStop, gap_one, tail_same}
use Rattle.ml_lexer.proofs.Stops.{stands_stop, stands_some}
use Rattle.token_laws.proofs.OneKind.{kind_one}

-- the first bytes of one list are one
head_same : {b c : ℕ} {bs cs : List ℕ} → b ∷ bs ≡ c ∷ cs → b ≡ c
head_same e = cc

-- fronts of one length of one list are one, and so are the rests
cut_one : (w v r s : List ℕ) → w ++ r ≡ v ++ s → length w ≡ length v → (w ≡ v) × (r ≡ s)
cut_one [] [] r s same size = (refl, same)
cut_one [] (c ∷ v) r s same size = absurd (omega (arith, size))
cut_one (b ∷ w) [] r s same size = absurd (omega (arith, size))
cut_one (b ∷ w) (c ∷ v) r s same size =
    let rest = cut_one w v r s (tail_same same) (omega (arith, size)) in
    (ap (λ x. x ∷ w) (head_same same) ∙ ap (λ (l : List ℕ). c ∷ l) rest.0, rest.1)

-- the same kind, spelling and name
abbrev IsSame : Kind → Kind → List ℕ → List ℕ → List ℕ → List ℕ → Type 0
IsSame k l w v n m = (k ≡ l) × (w ≡ v) × (n ≡ m)

-- two longest spellings are one
longest_one : {k l : Kind} {w v n m r s : List ℕ} → w ++ r ≡ v ++ s → length w ≡ length v → Spells k w n r → Spells l v m s → IsSame k l w v n m
longest_one {l = l} {w = w} {v = v} {m = m} {r = r} {s = s} same size first second =
    let parts = cut_one w v r s same size in
    let moved : Spells l w m r = subst (λ (x : List ℕ). Spells l w m x) (sym parts.1) (subst (λ (x : List ℕ). Spells l x m s) (sym parts.0) second) in
    let one = kind_one first moved in
    (one.0, parts.0, one.1)

-- two strays are one
stray_one : (b c : ℕ) (bs cs r s : List ℕ) → b ∷ bs ++ r ≡ c ∷ cs ++ s → list_all continues bs ≡ true → begins continues r ≡ false → list_all continues cs ≡ true → begins continues s ≡ false → b ∷ bs ≡ c ∷ cs
stray_one b c bs cs r s same all last also end =
    let size : length bs ≡ length cs = sym (run_exact continues bs r all last) ∙ ap (run_length continues) (tail_same same) ∙ run_exact continues cs s also end in
    ap (λ x. x ∷ bs) (head_same same) ∙ ap (λ (l : List ℕ). c ∷ l) (cut_one bs cs r s (tail_same same) size).0

-- what is unclosed up to the end is unclosed in other parts
unclosed_same : {w l : List ℕ} → w ++ [] ≡ l → IsUnclosed w → IsUnclosed l
unclosed_same {w = w} same u = subst IsUnclosed (sym (append-nil w) ∙ same) u

-- one token stands at a place
stands_one : {w v n m r s : List ℕ} {k l : Kind} → w ++ r ≡ v ++ s → Stands k w n r → Stands l v m s → IsSame k l w v n m
stands_one same (unclosed {bytes = w} u) (unclosed {bytes = v} d) = let one = sym (append-nil w) ∙ same ∙ append-nil v in (refl, one, one)
stands_one same (unclosed u) (longest ends none is) = absurd (ends (unclosed_same same u))
stands_one same (unclosed u) (stray ends none no_blank no_token all last) = absurd (ends (unclosed_same same u))
stands_one same (longest ends none is) (unclosed u) = absurd (ends (unclosed_same (sym same) u))
stands_one same (longest {kind = k} {bytes = w} {name = n} {rest = r} ends none is) (longest {kind = l} {bytes = v} {name = m} {rest = s} _ _ other) =
    let short = is.longest l v m s same other.spelled in
    let long = other.longest k w n r (sym same) is.spelled in
    longest_one same (omega (arith, short, long)) is.spelled other.spelled
stands_one same (longest {kind = k} {bytes = w} {name = n} {rest = r} ends none is) (stray _ _ no_blank no_token all last) = absurd (no_token k w n r (sym same) is.spelled)
stands_one same (stray ends none no_blank no_token all last) (unclosed u) = absurd (ends (unclosed_same (sym same) u))
stands_one same (stray ends none no_blank no_token all last) (longest {kind = l} {bytes = v} {name = m} {rest = s} _ _ is) = absurd (no_token l v m s same is.spelled)
stands_one same (stray {b = b} {bs = bs} {rest = r} _ _ _ _ all last) (stray {b = c} {bs = cs} {rest = s} _ _ _ _ also end) =
    let one = stray_one b c bs cs r s same all last also end in
    (refl, one, one)

-- a token is its kind, its places and its name
abbrev token : Kind → ℕ → ℕ → ℕ → List ℕ → Tok
token kind start end col name = record { kind = kind; start = start; end = end; col = col; name = name }

-- tokens with the same parts are one
token_same : (t u : Tok) → t.kind ≡ u.kind → t.start ≡ u.start → t.end ≡ u.end → t.col ≡ u.col → t.name ≡ u.name → t ≡ u
token_same t u kind start end col name =
    ap (λ (x : Kind). token x t.start t.end t.col t.name) kind ∙ ap (λ (x : ℕ). token u.kind x t.end t.col t.name) start ∙ ap (λ (x : ℕ). token u.kind u.start x t.col t.name) end
    ∙ ap (λ (x : ℕ). token u.kind u.start u.end x t.name) col ∙ ap (λ (x : List ℕ). token u.kind u.start u.end u.col x) name

-- the first token behind a place is one, where tokens at one place have one column
first_one : (text : List ℕ) (at : ℕ) (bytes : List ℕ) (t u : Tok) → IsFirst at bytes t → IsFirst at bytes u → t.col ≡ column text t.start → u.col ≡ column text u.start → t ≡ u
first_one text at bytes t u f g c d =
    let same : f.spelled ++ f.rest ≡ g.spelled ++ g.rest = gap_one (stands_stop f.stands) (stands_stop g.stands) f.gap g.gap in
    let one = stands_one same f.stands g.stands in
    let start : t.start ≡ u.start = omega (arith, f.start, g.start, ap length same) in
    token_same t u one.0 start (omega (arith, f.end, g.end, start, ap length one.1)) (c ∙ ap (column text) start ∙ sym d) one.2

-- where a gap is all that is left no token stands
end_stop : IsStop []
end_stop = record { no_blank = refl; no_comment = λ bs middle same c. omega (arith, ap length same) }

-- behind a gap up to the end no token stands
none_left : (at : ℕ) (bytes : List ℕ) (t : Tok) → Gap bytes [] → IsFirst at bytes t → ⊥
none_left at bytes t gap f =
    let same : [] ≡ f.spelled ++ f.rest = gap_one end_stop (stands_stop f.stands) gap f.gap in
    omega (arith, ap length same, length-append f.spelled f.rest, stands_some f.stands)

-- the tokens from a place on are one list
lex_from_one : (text : List ℕ) (at : ℕ) (ts us : List Tok) → LexFrom text at ts → LexFrom text at us → ts ≡ us
unfolding FirstToken
lex_from_one text at [] [] none also = refl
lex_from_one text at [] (u ∷ us) none some = absurd (none_left at (drop at text) u none.0 some.0.0)
lex_from_one text at (t ∷ ts) [] some none = absurd (none_left at (drop at text) t none.0 some.0.0)
lex_from_one text at (t ∷ ts) (u ∷ us) first second =
    let one : t ≡ u = first_one text at (drop at text) t u first.0.0 second.0.0 first.0.1 second.0.1 in
    let rest : LexFrom text t.end us = subst (λ (x : Tok). LexFrom text x.end us) (sym one) second.1 in
    ap (λ (x : Tok). x ∷ ts) one ∙ ap (λ (l : List Tok). u ∷ l) (lex_from_one text t.end ts us first.1 rest)

-- two lists that are both those of a text are one
pub lex_one : (text : List ℕ) (ts us : List Tok) → Lex text ts → Lex text us → ts ≡ us
unfolding Lex
lex_one text ts us first second = lex_from_one text 0 ts us first second

-- the first token of a text at or behind a place is one, and there is none or one
pub token_one : (text : List ℕ) (at : ℕ) (t u : Tok) → FirstToken text at (Some t) → FirstToken text at (Some u) → t ≡ u
unfolding FirstToken
token_one text at t u first second = first_one text at (drop at text) t u first.0 second.0 first.1 second.1

pub none_or_one : (text : List ℕ) (at : ℕ) (t : Tok) → FirstToken text at None → FirstToken text at (Some t) → ⊥
unfolding FirstToken
none_or_one text at t none some = none_left at (drop at text) t none.0 some.0
