-- What is tested of a list of rows.
use Rattle.std.specs.Prelude.{ℕ, zero, suc, ◌+◌, Bool, true, false, ◌&&◌, not, nat_le, nat_eq, Option, Some, None, List, [], ◌∷◌, if◌then◌else◌}
use Rattle.grammar_model.specs.Tables.{Table, is_text, What, nothing, token, operand, Edge, has, begins_by, takes}
use Rattle.grammar_model.specs.Machine.{spot_of}
use Rattle.grammar_model.specs.Rows.{Spot, Row}

-- each row, with its number, passes the test
abbrev pub each : ℕ → List Row → (ℕ → Row → Bool) → Bool
each i [] test = true
each i (w ∷ ws) test = test i w && each (i + 1) ws test

-- each spot, with its number, passes the test
abbrev pub each_spot : ℕ → List Spot → (ℕ → Spot → Bool) → Bool
each_spot i [] test = true
each_spot i (s ∷ ss) test = test i s && each_spot (i + 1) ss test

-- each number below a bound passes the test
abbrev pub each_below : ℕ → (ℕ → Bool) → Bool
each_below zero test = true
each_below (suc n) test = test n && each_below n test

-- each spot that may come passes the test
abbrev pub each_edge : List Edge → (ℕ → Bool) → Bool
each_edge [] test = true
each_edge (e ∷ es) test = test e.spot && each_edge es test

-- each key of a list passes the test
abbrev pub all_of : List ℕ → (ℕ → Bool) → Bool
all_of [] test = true
all_of (k ∷ ks) test = test k && all_of ks test

-- two lists are equal
abbrev pub same : List ℕ → List ℕ → Bool
same [] [] = true
same [] (y ∷ ys) = false
same (x ∷ xs) [] = false
same (x ∷ xs) (y ∷ ys) = nat_eq x y && same xs ys

-- a row that may be none is this one
abbrev pub is_row : Option ℕ → ℕ → Bool
is_row None i = false
is_row (Some j) i = nat_eq j i

-- no token and no operand stands there
abbrev pub is_nothing : What → Bool
is_nothing nothing = true
is_nothing (token ks) = false
is_nothing (operand s n) = false

-- where the first row of a chain may stand, the longer chain has this row in front
abbrev pub longer : Table → ℕ → ℕ → List ℕ → List ℕ → Bool
longer G i n [] ys = true
longer G i n (q ∷ qs) ys = if nat_le n (G.stand q) then same ys (i ∷ q ∷ qs) else true

-- of the rows of its sort without a left operand, this row alone has the keys that it begins with
abbrev pub begins_alone : Table → ℕ → ℕ → ℕ → What → Bool
begins_alone G keys i s nothing = true
begins_alone G keys i s (token ks) = all_of ks (λ k. same (G.chain s k) (i ∷ []))
begins_alone G keys i s (operand s' n) = each_below keys (λ k. longer G i n (G.chain s' k) (G.chain s k))

-- of the rows of its sort with a left operand, this row alone has the keys that it begins with
abbrev pub grows_alone : Table → ℕ → ℕ → ℕ → What → Bool
grows_alone G keys i s nothing = true
grows_alone G keys i s (token ks) = all_of ks (λ k. is_row (G.grower s k) i)
grows_alone G keys i s (operand s' n) = each_below keys (λ k. if begins_by G n (G.chain s' k) then is_row (G.grower s k) i else true)

-- at most one spot may come
abbrev pub one_or_none : List Edge → Bool
one_or_none [] = true
one_or_none (e ∷ []) = true
one_or_none (e ∷ f ∷ es) = false

-- an operand of no whole text's sort
abbrev pub no_text : What → Bool
no_text nothing = true
no_text (token ks) = true
no_text (operand s n) = not (is_text s)

-- the spot may come behind every operand
abbrev pub is_open : Option ℕ → Bool
is_open None = true
is_open (Some r) = false

-- the last spot that may come is open to every operand before it
abbrev pub must_fine : List Edge → Bool
must_fine [] = false
must_fine (e ∷ []) = is_open e.behind
must_fine (e ∷ d ∷ es) = must_fine (d ∷ es)

-- the spot takes the key, by itself or by the rows of the chain
abbrev pub what_fine : Table → ℕ → List ℕ → What → Bool
what_fine G k [] nothing = false
what_fine G k [] (token ks) = has ks k
what_fine G k [] (operand s n) = false
what_fine G k (q ∷ qs) nothing = false
what_fine G k (q ∷ qs) (token ks) = false
what_fine G k (q ∷ qs) (operand s n) = same (G.chain s k) (q ∷ qs) && nat_le n (G.stand q)

-- one spot may come, behind every operand
abbrev pub one_edge : List Edge → Bool
one_edge [] = false
one_edge (e ∷ []) = is_open e.behind
one_edge (e ∷ f ∷ es) = false

-- the rows of a chain begin one in the other, up to one that begins with the key
abbrev pub chain_fine : Table → ℕ → ℕ → List ℕ → Bool
chain_fine G s k [] = true
chain_fine G s k (r ∷ rs) = nat_eq (G.sort r) s && not (G.has_left r) && one_edge (G.next r 0) && what_fine G k rs (G.what r (spot_of (G.next r 0)))

-- the row grows an operand of the sort by the key
abbrev pub grower_fine : Table → ℕ → ℕ → Option ℕ → Bool
grower_fine G s k None = true
grower_fine G s k (Some g) = nat_eq (G.sort g) s && G.has_left g && one_edge (G.next g 0) && takes G (G.what g (spot_of (G.next g 0))) k
