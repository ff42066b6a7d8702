-- What the steps behind the first tokens of a text take.
use Rattle.std.proofs.Common.{◌≡◌, ℕ, zero, suc, ◌+◌, ◌-◌, ◌*◌, ◌≤◌, List, [], ◌∷◌, ◌++◌, length, take, drop, map, take-append-drop, sym, ap, ◌∙◌, arith}
use Rattle.std.proofs.lemmas.List.{length-drop, length-map, length-take, take-take}
use Rattle.token_model.specs.Kinds.{Tok}
use Rattle.grammar_model.specs.Tables.{Table}
use Rattle.grammar_model.specs.Ocaml.{Text, grammar}
use Rattle.recovery_model.specs.Items.{Parser}
use Rattle.recovery_model.specs.Recovery.{step, start}
use Rattle.frame_parser.specs.Run.{run, run_on, shifted_by, shifts_on, all_shifts}
use Rattle.frame_parser.proofs.Bounds.{on_bound}
use Rattle.syntax_tree.specs.Tallies.{Tallies, shifted_more}
use Rattle.syntax_tree.specs.View.{tok_of}
use Rattle.syntax_tree.specs.declared.tree.Token.{Token}
use Rattle.resume_parser.specs.Kept.{IsCounted}
use Rattle.resume_parser.specs.Retaken.{kept_behind}
use Rattle.resume_parser.proofs.Steps.{mapped_first}

-- the steps of tokens and of others behind them
shifts_split : (G : Table) (xs ys : List Tok) (p : Parser) → shifts_on G (xs ++ ys) p ≡ shifts_on G xs p + shifts_on G ys (run_on G xs p)
shifts_split G [] ys p = omega arith
shifts_split G (t ∷ xs) ys p = omega (arith, shifts_split G xs ys (step G p t).parser)

-- what is taken behind the first tokens
taken_behind : (text : Text) (ts : List Tok) (k : ℕ) → all_shifts text ts ≤ all_shifts text (take k ts) + (kept_behind text (take k ts) + 2 * (length ts - k))
unfolding all_shifts run
taken_behind text ts k =
    let p = run_on (grammar text) (take k ts) (start (grammar text)) in
    let whole = ap (λ (l : List Tok). shifts_on (grammar text) l (start (grammar text))) (sym (take-append-drop k ts)) ∙ shifts_split (grammar text) (take k ts) (drop k ts) (start (grammar text)) in
    omega (arith, whole, on_bound text (drop k ts) p, length-drop k ts)

-- the first tokens take no more than all
pub fewer_taken : (text : Text) (ts : List Tok) (k : ℕ) → all_shifts text (take k ts) ≤ all_shifts text ts
unfolding all_shifts
fewer_taken text ts k =
    let p = run_on (grammar text) (take k ts) (start (grammar text)) in
    let whole = ap (λ (l : List Tok). shifts_on (grammar text) l (start (grammar text))) (sym (take-append-drop k ts)) ∙ shifts_split (grammar text) (take k ts) (drop k ts) (start (grammar text)) in
    omega (arith, whole)

-- What was counted behind the first tokens is at most twice as many as the tokens behind fewer of them, and those that are kept there.
pub counted_within : (text : Text) (same k : ℕ) (us ts : List Tok) (a b : Tallies) (c : IsCounted text same us a b) → k ≤ same → length us ≤ length ts → take k us ≡ take k ts → c.steps ≤ kept_behind text (take k ts) + 2 * (length ts - k)
counted_within text same k us ts a b c le few first =
    let less : all_shifts text (take k us) ≤ all_shifts text (take same us) = omega (arith, fewer_taken text (take same us) k, ap (all_shifts text) (take-take k same us le)) in
    omega (arith, c.others, taken_behind text us k, less, few, ap (kept_behind text) first)

-- the same where the tokens that were counted are the first of the code's
pub counted_first : (text : Text) (same j : ℕ) (tokens : List Token) (a b : Tallies) (c : IsCounted text same (map tok_of (take j tokens)) a b) → same ≤ j
    → (k : ℕ) → k ≤ same → c.steps ≤ kept_behind text (take k (map tok_of tokens)) + 2 * (length tokens - k)
counted_first text same j tokens a b c least k le =
    let ts = map tok_of tokens in
    let first : take k (map tok_of (take j tokens)) ≡ take k ts = ap (take k) (sym (mapped_first tokens j)) ∙ take-take k j ts (omega (arith, le, least)) in
    omega (arith, counted_within text same k (map tok_of (take j tokens)) ts a b c le (omega (arith, length-map (take j tokens) tok_of, length-take j tokens, length-map tokens tok_of)) first, length-map tokens tok_of)

-- by so many steps a counter grows
pub shifted_most : (n : ℕ) (a : Tallies) → (shifted_by n a).shifted ≤ a.shifted + n
shifted_most zero a = omega arith
shifted_most (suc n) a = omega (arith, shifted_most n (shifted_more a))

pub shifted_within : (a b : Tallies) (n most : ℕ) → b ≡ shifted_by n a → n ≤ most → b.shifted ≤ a.shifted + most
shifted_within a b n most is le = omega (arith, ap (λ (t : Tallies). t.shifted) is, shifted_most n a, le)

-- and by those of all tokens
pub counted_all : (text : Text) (ts : List Tok) (a b : Tallies) → IsCounted text 0 ts a b → b.shifted ≤ a.shifted + all_shifts text ts
counted_all text ts a b c = shifted_within a b c.steps (all_shifts text ts) c.counted (omega (arith, c.others))
