-- Steps of tokens: one more, the first ones, and what the last one and all of them say.
use Rattle.std.proofs.Common.{◌≡◌, ℕ, zero, suc, ◌+◌, ◌-◌, ◌≤◌, List, [], ◌∷◌, ◌++◌, length, take, map, get_or, refl, sym, ap, ◌∙◌, subst, arith, append_assoc, append-nil, Ok, Err}
use Rattle.std.specs.Result.{OnErr}
use Rattle.std.specs.declared.result.Result.{Result}
use Rattle.std.proofs.lemmas.List.{take_all, take-append-le, length-map, length-take}
use Rattle.token_model.specs.Kinds.{Tok}
use Rattle.grammar_model.specs.Ocaml.{Text}
use Rattle.frame_parser.specs.Behind.{Behind}
use Rattle.syntax_tree.specs.Tallies.{Tallies, shifted_more}
use Rattle.syntax_tree.specs.View.{tok_of}
use Rattle.syntax_tree.specs.declared.tree.Token.{Token}
use Rattle.frame_parser.specs.Run.{all_shifts, faults, next_shifts, shifted_by}
use Rattle.frame_parser.proofs.Lists.{shifted_add, shifts_next}
use Rattle.resume_parser.specs.Kept.{ArePassed, IsCounted}
use Rattle.resume_parser.specs.declared.kept.Passed.{Passed}

-- there are as many steps as tokens
pub steps_many : (text : Text) (before ts : List Tok) (ss : List Passed) → ArePassed text before ts ss → length ss ≡ length ts
steps_many text before [] [] are = refl
steps_many text before [] (s ∷ ss) are = absurd are
steps_many text before (t ∷ ts) [] are = absurd are
steps_many text before (t ∷ ts) (s ∷ ss) are = ap suc (steps_many text (before ++ t ∷ []) ts ss are.2)

-- one step more
pub steps_more : (text : Text) (before ts : List Tok) (ss : List Passed) (t : Tok) (s : Passed) → ArePassed text before ts ss → Behind text ((before ++ ts) ++ t ∷ []) s.stack
    → s.faults ≡ length (faults text ((before ++ ts) ++ t ∷ [])) → ArePassed text before (ts ++ t ∷ []) (ss ++ s ∷ [])
steps_more text before [] [] t s are stack many =
    (subst (λ (l : List Tok). Behind text (l ++ t ∷ []) s.stack) (append-nil before) stack, subst (λ (l : List Tok). s.faults ≡ length (faults text (l ++ t ∷ []))) (append-nil before) many, tt)
steps_more text before [] (r ∷ ss) t s are stack many = absurd are
steps_more text before (u ∷ ts) [] t s are stack many = absurd are
steps_more text before (u ∷ ts) (r ∷ ss) t s are stack many =
    let same : before ++ u ∷ ts ≡ (before ++ u ∷ []) ++ ts = sym (append_assoc before (u ∷ []) ts) in
    (are.0, are.1, steps_more text (before ++ u ∷ []) ts ss t s are.2 (subst (λ (l : List Tok). Behind text (l ++ t ∷ []) s.stack) same stack) (subst (λ (l : List Tok). s.faults ≡ length (faults text (l ++ t ∷ []))) same many))

-- the first steps are those of the first tokens
pub steps_first : (text : Text) (before ts : List Tok) (ss : List Passed) (n : ℕ) → ArePassed text before ts ss → ArePassed text before (take n ts) (take n ss)
steps_first text before [] [] zero are = tt
steps_first text before [] [] (suc n) are = tt
steps_first text before [] (s ∷ ss) n are = absurd are
steps_first text before (t ∷ ts) [] n are = absurd are
steps_first text before (t ∷ ts) (s ∷ ss) zero are = tt
steps_first text before (t ∷ ts) (s ∷ ss) (suc n) are = (are.0, are.1, steps_first text (before ++ t ∷ []) ts ss n are.2)

-- what is kept of the last of these tokens
abbrev pub IsLast : Text → List Tok → Passed → Type 0
IsLast text ts s = Behind text ts s.stack × (s.faults ≡ length (faults text ts))

-- the last step is that of the last of all tokens
steps_last : (text : Text) (before ts : List Tok) (ss : List Passed) (s : Passed) (k : ℕ) → length ss ≡ k + 1 → s ≡ get_or ss k s → ArePassed text before ts ss → IsLast text (before ++ ts) s
steps_last text before ts [] s k many is are = absurd (omega (arith, many))
steps_last text before [] (r ∷ ss) s k many is are = absurd are
steps_last text before (t ∷ []) (r ∷ []) s zero many is are = subst (λ (x : Passed). IsLast text (before ++ t ∷ []) x) (sym is) (are.0, are.1)
steps_last text before (t ∷ u ∷ ts) (r ∷ []) s zero many is are = absurd are.2
steps_last text before (t ∷ ts) (r ∷ []) s (suc k) many is are = absurd (omega (arith, many))
steps_last text before (t ∷ ts) (r ∷ q ∷ ss) s zero many is are = absurd (omega (arith, many))
steps_last text before (t ∷ ts) (r ∷ q ∷ ss) s (suc k) many is are =
    subst (λ (l : List Tok). IsLast text l s) (append_assoc before (t ∷ []) ts) (steps_last text (before ++ t ∷ []) ts (q ∷ ss) s k (omega (arith, many)) is are.2)

some_count : (n : ℕ) → (n ≡ 0 → ⊥) → n ≡ (n - 1) + 1
some_count zero none = absurd (none refl)
some_count (suc n) none = omega arith

-- the same of the code's last step
pub last_behind : (text : Text) (ts : List Tok) (ss : List Passed) (s : Passed) → (length ss ≡ 0 → ⊥) → s ≡ get_or ss (length ss - 1) s → ArePassed text [] ts ss → IsLast text ts s
last_behind text ts ss s some is are = steps_last text [] ts ss s (length ss - 1) (some_count (length ss) some) is are

-- no steps are those of no tokens
pub none_parsed : (text : Text) (before ts : List Tok) (ss : List Passed) → length ss ≡ 0 → ArePassed text before ts ss → ts ≡ []
none_parsed text before [] ss none are = refl
none_parsed text before (t ∷ ts) [] none are = absurd are
none_parsed text before (t ∷ ts) (s ∷ ss) none are = absurd (omega (arith, none))

-- the first tokens are as many as they are said to be
pub first_many : (tokens : List Token) (n : ℕ) → n ≤ length tokens → length (map tok_of (take n tokens)) ≡ n
first_many tokens n le = omega (arith, length-map (take n tokens) tok_of, length-take n tokens)

-- a token that is shifted isn't lexed
pub lexed_stays : (n : ℕ) (c : Tallies) → (shifted_by n c).lexed ≡ c.lexed
lexed_stays zero c = refl
lexed_stays (suc n) c = lexed_stays n (shifted_more c)

-- nor typed
pub typed_stays : (n : ℕ) (c : Tallies) → (shifted_by n c).typed ≡ c.typed
typed_stays zero c = refl
typed_stays (suc n) c = typed_stays n (shifted_more c)

-- nothing is counted yet
pub counted_none : (text : Text) (tokens : List Token) (n : ℕ) (c : Tallies) → n ≤ length tokens → IsCounted text n (map tok_of (take n tokens)) c c
counted_none text tokens n c le =
    let ts = map tok_of (take n tokens) in
    let same : take n ts ≡ ts = take_all n ts (omega (arith, first_many tokens n le)) in
    record { steps = 0; others = ap (all_shifts text) (sym same) ∙ zero_more (all_shifts text (take n ts)); counted = refl }
  where
    zero_more : (k : ℕ) → k ≡ k + 0
    zero_more k = omega arith

-- the step of one token more is counted
pub counted_on : (text : Text) (same : ℕ) (ts us : List Tok) (t : Tok) (a b c : Tallies) → same ≤ length ts → us ≡ ts ++ t ∷ [] → IsCounted text same ts a b → c ≡ shifted_by (next_shifts text ts t) b → IsCounted text same us a c
counted_on text same ts us t a b c le is so_far next =
    let first : take same us ≡ take same ts = ap (take same) is ∙ take-append-le same ts (t ∷ []) le in
    let all : all_shifts text us ≡ all_shifts text ts + next_shifts text ts t = ap (all_shifts text) is ∙ shifts_next text ts t in
    record {
      steps = so_far.steps + next_shifts text ts t;
      others = omega (arith, all, so_far.others, ap (all_shifts text) first);
      counted = next ∙ ap (shifted_by (next_shifts text ts t)) so_far.counted ∙ shifted_add so_far.steps (next_shifts text ts t) a;
    }

-- what holds anyway holds at a refusal
pub at_refusal : {T E : Type 0} (r : Result T E) {P : Type 0} → P → OnErr r P
at_refusal (Ok x) p = tt
at_refusal (Err e) p = p

-- the first tokens, of the code and of the definitions
pub mapped_first : (tokens : List Token) (n : ℕ) → take n (map tok_of tokens) ≡ map tok_of (take n tokens)
mapped_first [] zero = refl
mapped_first [] (suc n) = refl
mapped_first (t ∷ ts) zero = refl
mapped_first (t ∷ ts) (suc n) = ap (λ (l : List Tok). tok_of t ∷ l) (mapped_first ts n)
