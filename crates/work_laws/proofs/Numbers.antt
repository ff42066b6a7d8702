-- The bound on the tokens that the parser takes, by the start of the item that is open before a place.
use Rattle.std.proofs.Common.{◌≡◌, ℕ, suc, ◌<◌, All, ◌+◌, ◌-◌, ◌*◌, ◌≤◌, min, nat_lt, Bool, true, false, List, [], ◌∷◌, ◌++◌, length, take, drop, Option, Some, None, refl, sym, ◌∙◌, ap, subst, arith, length-append, if◌then◌else◌}
use Rattle.std.proofs.lemmas.List.{length-take, take-append-drop}
use Rattle.std.proofs.lemmas.List.Elements.{All-cons, All-nil}
use Rattle.std.proofs.lemmas.Bool.{ltb-true, ltb-false}
use Rattle.token_model.specs.Kinds.{Tok}
use Rattle.token_model.specs.Tokens.{Lex, LexFrom}
use Rattle.ml_lexer.proofs.Forward.{forward}
use Rattle.grammar_model.specs.Machine.{Stack}
use Rattle.grammar_model.specs.Ocaml.{grammar, program_text, rows, sizes, root_of}
use Rattle.grammar_laws.proofs.Instance.{found}
use Rattle.grammar_laws.proofs.Promises.{rows_tested}
use Rattle.recovery_model.specs.Items.{Mark, sound, held, marked, Item}
use Rattle.recovery_model.specs.Recovery.{start}
use Rattle.work_model.specs.Work.{ends_at, kept_behind, kept_in, kept_of, lexed_behind, open_behind, open_start, run_on, second_behind, shifted_behind, sooner, Amount, IsBehind}
use Rattle.work_laws.proofs.Frames.{IsItemRow, opens}
use Rattle.work_laws.proofs.Parsers.{EndFrom, InOrder, Leads, IsKept, IsKeptMark, Runs, runs_on}

-- the row of an item begins with `let`
item_is : IsItemRow (grammar program_text)
unfolding rows
item_is = record { first = refl; token = λ s n h. cc; left = refl }

-- no item is open before the first token
begins : (ts : List Tok) → Runs (start (grammar program_text)) [] ts
begins ts = record { leads = record { begun = (λ h. let bad : false ≡ true = h in absurd (cc), tt); before = λ n h is. let bad : false ≡ true = h in absurd (cc) }; kept = tt }

end_less : (m n : ℕ) (ts : List Tok) → m ≤ n → EndFrom n ts → EndFrom m ts
end_less m n [] le h = tt
end_less m n (t ∷ ts) le h = (let first = h.0 in omega (arith, first, le), end_less m n ts le h.1)

-- ---- the order of a text's tokens

lex_ends : (text : List ℕ) (at : ℕ) (ts : List Tok) → at ≤ length text → LexFrom text at ts → EndFrom at ts
lex_ends text at [] inside lex = tt
lex_ends text at (t ∷ ts) inside lex =
    let (after, some, within) = forward text at t inside lex.0 in
    let le : at ≤ t.end = omega (arith, after, some) in
    (le, end_less at t.end ts le (lex_ends text t.end ts within lex.1))

lex_order : (text : List ℕ) (at : ℕ) (ts : List Tok) → at ≤ length text → LexFrom text at ts → InOrder ts
lex_order text at [] inside lex = tt
lex_order text at (t ∷ ts) inside lex =
    let (after, some, within) = forward text at t inside lex.0 in
    (end_less t.start t.end ts (omega (arith, some)) (lex_ends text t.end ts within lex.1), lex_order text t.end ts within lex.1)

-- ---- how many tokens end at a place or after it

ends_less : (m n : ℕ) (ts : List Tok) → m ≤ n → ends_at n ts ≤ ends_at m ts
ends_less m n [] le = omega arith
ends_less m n (t ∷ ts) le = by (nat_lt t.end n) refl (nat_lt t.end m) refl (ends_less m n ts le)
  where
    by : (a : Bool) → nat_lt t.end n ≡ a → (b : Bool) → nat_lt t.end m ≡ b → ends_at n ts ≤ ends_at m ts → (if a then 0 else 1) + ends_at n ts ≤ (if b then 0 else 1) + ends_at m ts
    by true x true y rest = omega (arith, rest)
    by true x false y rest = omega (arith, rest)
    by false x true y rest = let far = ltb-false t.end n x in let near = ltb-true t.end m y in absurd (omega (arith, far, near, le))
    by false x false y rest = omega (arith, rest)

ends_on : (n : ℕ) (xs ys : List Tok) → ends_at n (xs ++ ys) ≡ ends_at n xs + ends_at n ys
ends_on n [] ys = omega arith
ends_on n (x ∷ xs) ys = let rest = ends_on n xs ys in omega (arith, rest)

ends_all : (n : ℕ) (ts : List Tok) → EndFrom n ts → length ts ≤ ends_at n ts
ends_all n [] h = omega arith
ends_all n (t ∷ ts) h = by (nat_lt t.end n) refl h.0 (ends_all n ts h.1)
  where
    by : (a : Bool) → nat_lt t.end n ≡ a → n ≤ t.end → length ts ≤ ends_at n ts → length (t ∷ ts) ≤ (if a then 0 else 1) + ends_at n ts
    by true is le rest = let less = ltb-true t.end n is in absurd (omega (arith, less, le))
    by false is le rest = omega (arith, rest)

sooner_place : (place : ℕ) (o : Option ℕ) → sooner place o ≤ place
sooner_place place None = omega arith
sooner_place place (Some n) = let least : min place n ≤ place = omega arith in least

ends_few : (n : ℕ) (ts : List Tok) → ends_at n ts ≤ length ts
ends_few n [] = omega arith
ends_few n (t ∷ ts) = by (nat_lt t.end n) (ends_few n ts)
  where
    by : (a : Bool) → ends_at n ts ≤ length ts → (if a then 0 else 1) + ends_at n ts ≤ length (t ∷ ts)
    by true rest = omega (arith, rest)
    by false rest = omega (arith, rest)

-- so many tokens end before a place and are the first ones, and the others end there or after it
abbrev SplitsAt : ℕ → List Tok → ℕ → Type 0
SplitsAt place ts k = All (λ t. t.end < place) (take k ts) × All (λ t. place ≤ t.end) (drop k ts)

all_from : (n : ℕ) (ts : List Tok) → EndFrom n ts → All (λ t. n ≤ t.end) ts
all_from n [] h = All-nil (λ t. n ≤ t.end)
all_from n (t ∷ ts) h = All-cons (λ t. n ≤ t.end) t ts h.0 (all_from n ts h.1)

split_from : (place : ℕ) (text : List ℕ) (at : ℕ) (ts : List Tok) → at ≤ length text → LexFrom text at ts → SplitsAt place ts (length ts - ends_at place ts)
split_from place text at [] inside lex = (All-nil (λ t. t.end < place), All-nil (λ t. place ≤ t.end))
split_from place text at (t ∷ ts) inside lex =
    let (after, some, within) = forward text at t inside lex.0 in
    by (nat_lt t.end place) refl (lex_ends text t.end ts within lex.1) (split_from place text t.end ts within lex.1)
  where
    by : (a : Bool) → nat_lt t.end place ≡ a → EndFrom t.end ts → SplitsAt place ts (length ts - ends_at place ts) → SplitsAt place (t ∷ ts) (length (t ∷ ts) - ((if a then 0 else 1) + ends_at place ts))
    by true is later rest =
        let few = ends_few place ts in
        let size : suc (length ts - ends_at place ts) ≡ length (t ∷ ts) - (0 + ends_at place ts) = omega (arith, few) in
        subst (SplitsAt place (t ∷ ts)) size (All-cons (λ t. t.end < place) t (take (length ts - ends_at place ts) ts) (ltb-true t.end place is) rest.0, rest.1)
    by false is later rest =
        let near = ltb-false t.end place is in
        let all = end_less place t.end ts (omega (arith, near)) later in
        let most = ends_all place ts all in
        let size : 0 ≡ length (t ∷ ts) - (1 + ends_at place ts) = omega (arith, most) in
        subst (SplitsAt place (t ∷ ts)) size (All-nil (λ t. t.end < place), All-cons (λ t. place ≤ t.end) t ts (omega (arith, near)) (all_from place ts all))

-- the tokens of a text that end before a place are the first ones
pub split_tokens : (text : List ℕ) (place : ℕ) (tokens : List Tok) → Lex text tokens → All (λ t. t.end < place) (take (length tokens - ends_at place tokens) tokens) × All (λ t. place ≤ t.end) (drop (length tokens - ends_at place tokens) tokens)
unfolding Lex
split_tokens text place tokens lex = split_from place text 0 tokens (omega arith) lex

-- ---- the bound

-- an item that keeps no tokens
bound_none : (place kept : ℕ) (tokens : List Tok) (o : Option ℕ) → kept ≡ 0 → kept + 2 * lexed_behind place tokens ≤ 64 + 2 * ends_at (sooner place o) tokens
bound_none place kept tokens o none = let more = ends_less (sooner place o) place tokens (sooner_place place o) in omega (arith, none, more)

-- one that keeps some
bound_held : (place n : ℕ) (first ts rest tokens : List Tok) → tokens ≡ (first ++ ts) ++ rest → length (first ++ ts) ≡ length tokens - lexed_behind place tokens → EndFrom n ts → EndFrom n rest
    → length ts + 2 * lexed_behind place tokens ≤ 64 + 2 * ends_at (min place n) tokens
bound_held place n first ts rest tokens is size own later =
    let b = min place n in
    let near : b ≤ n = omega arith in
    let far : b ≤ place = omega arith in
    let more = ends_less b place tokens far in
    let split = ap (ends_at b) is ∙ ends_on b (first ++ ts) rest in
    let front = ends_on b first ts in
    let mine = ends_all b ts (end_less b n ts near own) in
    let others = ends_all b rest (end_less b n rest near later) in
    let count = ap length is ∙ length-append (first ++ ts) rest in
    let few = length-append first ts in
    omega (arith, size, more, split, front, mine, others, count, few)

bound_by : (place : ℕ) (tokens front rest : List Tok) (S : Stack) (i : Option Item) → tokens ≡ front ++ rest → length front ≡ length tokens - lexed_behind place tokens → Leads S rest → IsKept S front rest i
    → kept_in i + 2 * lexed_behind place tokens ≤ 64 + 2 * ends_at (sooner place (open_start S)) tokens
bound_by place tokens front rest S None is size l h = bound_none place 0 tokens (open_start S) refl
bound_by place tokens front rest S (Some i) is size l h = by i.mark h
  where
    by : (m : Mark) → IsKeptMark S front rest m → kept_of m + 2 * lexed_behind place tokens ≤ 64 + 2 * ends_at (sooner place (open_start S)) tokens
    by sound h = bound_none place 0 tokens (open_start S) refl
    by marked h = bound_none place 0 tokens (open_start S) refl
    by (held q ts) h =
        let (n, starts) = opens S l.begun h.has in
        let all = bound_held place n h.back.first ts rest tokens (is ∙ ap (λ xs. xs ++ rest) h.back.last) (sym (ap length h.back.last) ∙ size) (h.after n starts) (l.before n h.has starts) in
        subst (λ o. length ts + 2 * lexed_behind place tokens ≤ 64 + 2 * ends_at (sooner place o) tokens) (sym starts) all

taken_few : (place : ℕ) (tokens : List Tok) → InOrder tokens → shifted_behind place tokens ≤ second_behind place tokens
unfolding kept_behind open_behind
taken_few place tokens order =
    let k = length tokens - lexed_behind place tokens in
    let front = take k tokens in
    let rest = drop k tokens in
    let is : tokens ≡ front ++ rest = sym (take-append-drop k tokens) in
    let p = run_on (grammar program_text) front (start (grammar program_text)) in
    let runs = runs_on (grammar program_text) (found (root_of program_text) sizes rows (rows_tested program_text)) item_is front (start (grammar program_text)) [] rest (subst InOrder is order) (begins (front ++ rest)) in
    bound_by place tokens front rest p.state.stack p.item is (let most = length-take k tokens in omega (arith, most)) runs.leads runs.kept

-- the parser takes no more of a text's tokens than 64 more than twice those that end at a place or after it, or after the start of the item that is open before it
pub taken_tokens : (text : List ℕ) (place : ℕ) (tokens : List Tok) → Lex text tokens → shifted_behind place tokens ≤ second_behind place tokens
unfolding Lex
taken_tokens text place tokens lex = taken_few place tokens (lex_order text 0 tokens (omega arith) lex)

-- so no more than that of what is read behind a place
pub taken_behind : (text : List ℕ) (place : ℕ) (n : Amount) (tokens : List Tok) → IsBehind text place n → Lex text tokens → n.shifted ≤ second_behind place tokens
taken_behind text place n tokens behind lex = let most = (behind tokens lex).1 in let few = taken_tokens text place tokens lex in omega (arith, most, few)
