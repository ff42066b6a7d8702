-- The first tokens of a text: those that a change leaves, those of all, and how many all are.
use Rattle.std.proofs.Common.{◌≡◌, ℕ, zero, suc, ◌≤◌, ◌<◌, List, [], ◌∷◌, length, take, Some, None, Bool, true, false, nat_lt, refl, sym, ap, ◌∙◌, subst, arith}
use Rattle.std.specs.Prelude.{if◌then◌else◌}
use Rattle.std.proofs.lemmas.Bool.{ltb-true, ltb-false}
use Rattle.std.proofs.lemmas.Bool.Decides.{nat_tests}
use Rattle.token_model.specs.Kinds.{Tok, AllWithin}
use Rattle.ml_lexer.specs.Reached.{Reached, FirstReached, end_of, reach_of}
use Rattle.ml_lexer.specs.Steady.{steady, AllTokens}
use Rattle.ml_lexer.proofs.Agree.{agree_less}
use Rattle.ml_lexer.proofs.Forward.{forward}
use Rattle.token_laws.proofs.Steadies.{reached_steady}
use Rattle.token_store.specs.Stored.{toks_of, IsFront}

-- the steady tokens at an earlier place are steady ones of those at a later place
pub steady_less : (first later : ℕ) (ts : List Reached) → first ≤ later → steady reach_of first (steady reach_of later ts) ≡ steady reach_of first ts
steady_less first later [] le = refl
steady_less first later (t ∷ ts) le = go (nat_lt later t.reach) refl (steady_less first later ts le)
  where
    go : (c : Bool) → nat_lt later t.reach ≡ c → steady reach_of first (steady reach_of later ts) ≡ steady reach_of first ts
        → steady reach_of first (if c then [] else t ∷ steady reach_of later ts) ≡ (if nat_lt first t.reach then [] else t ∷ steady reach_of first ts)
    go true is rest =
        let beyond : later < t.reach = ltb-true later t.reach is in
        let early : nat_lt first t.reach ≡ true = grind (arith, nat_tests) in
        ap (λ (b : Bool). if b then [] else t ∷ steady reach_of first ts) (sym early)
    go false is rest = ap (λ (l : List Reached). if nat_lt first t.reach then [] else t ∷ l) rest

-- they are no more than all
pub steady_few : (place : ℕ) (ts : List Reached) → length (steady reach_of place ts) ≤ length ts
steady_few place [] = omega arith
steady_few place (t ∷ ts) = go (nat_lt place t.reach) (steady_few place ts)
  where
    go : (c : Bool) → length (steady reach_of place ts) ≤ length ts → length (if c then [] else t ∷ steady reach_of place ts) ≤ length (t ∷ ts)
    go true rest = omega arith
    go false rest = omega (arith, rest)

-- where the bytes before a place are as they were, the steady ones among first tokens of the text before are first tokens of the text after
pub front_on : (place : ℕ) (text other : List ℕ) (at : ℕ) (ts : List Reached) → take place text ≡ take place other → IsFront FirstReached end_of text at ts → IsFront FirstReached end_of other at (steady reach_of place ts)
front_on place text other at [] same front = tt
front_on place text other at (t ∷ ts) same front = go (nat_lt place t.reach) refl (front_on place text other t.token.end ts same front.1)
  where
    go : (c : Bool) → nat_lt place t.reach ≡ c → IsFront FirstReached end_of other t.token.end (steady reach_of place ts) → IsFront FirstReached end_of other at (if c then [] else t ∷ steady reach_of place ts)
    go true is rest = tt
    go false is rest = (reached_steady.stable text other at t front.0 (agree_less place t.reach text other (ltb-false place t.reach is) same), rest)

-- all tokens of a text are its first ones
pub all_front : (text : List ℕ) (at : ℕ) (ts : List Reached) → AllTokens FirstReached end_of text at ts → IsFront FirstReached end_of text at ts
all_front text at [] all = tt
all_front text at (t ∷ ts) all = (all.0, all_front text t.token.end ts all.1)

some_same : (t u : Reached) → Some t ≡ Some u → u ≡ t
some_same t u e = cc

-- first tokens of a text are those in front of all of them
pub front_of_all : (text : List ℕ) (at : ℕ) (xs ts : List Reached) → IsFront FirstReached end_of text at xs → AllTokens FirstReached end_of text at ts → take (length xs) ts ≡ xs
front_of_all text at [] [] front all = refl
front_of_all text at [] (t ∷ ts) front all = refl
front_of_all text at (x ∷ xs) [] front all = let bad : Some x ≡ None = reached_steady.one text at (Some x) None front.0 all in cc
front_of_all text at (x ∷ xs) (t ∷ ts) front all =
    let same : t ≡ x = some_same x t (reached_steady.one text at (Some x) (Some t) front.0 all.0) in
    let rest = front_of_all text (end_of x) xs ts front.1 (subst (λ (u : Reached). AllTokens FirstReached end_of text (end_of u) ts) same all.1) in
    ap (λ (u : Reached). u ∷ take (length xs) ts) same ∙ ap (λ (l : List Reached). x ∷ l) rest

-- steady tokens are in front of those that they are of
pub steady_first : (place : ℕ) (ts : List Reached) → take (length (steady reach_of place ts)) ts ≡ steady reach_of place ts
steady_first place [] = refl
steady_first place (t ∷ ts) = go (nat_lt place t.reach) (steady_first place ts)
  where
    go : (c : Bool) → take (length (steady reach_of place ts)) ts ≡ steady reach_of place ts → take (length (if c then [] else t ∷ steady reach_of place ts)) (t ∷ ts) ≡ (if c then [] else t ∷ steady reach_of place ts)
    go true rest = refl
    go false rest = ap (λ (l : List Reached). t ∷ l) rest

-- all tokens of a text are within it
pub all_within : (text : List ℕ) (at : ℕ) (ts : List Reached) → at ≤ length text → AllTokens FirstReached end_of text at ts → AllWithin (length text) (toks_of ts)
all_within text at [] inside all = tt
all_within text at (t ∷ ts) inside all =
    let on = forward text at t.token inside all.0.0 in
    (omega (arith, on.1, on.2), on.2, all_within text t.token.end ts on.2 all.1)

-- the tokens alone of the first ones
pub toks_first : (n : ℕ) (ts : List Reached) → take n (toks_of ts) ≡ toks_of (take n ts)
toks_first zero [] = refl
toks_first (suc n) [] = refl
toks_first zero (t ∷ ts) = refl
toks_first (suc n) (t ∷ ts) = ap (λ (l : List Tok). t.token ∷ l) (toks_first n ts)
