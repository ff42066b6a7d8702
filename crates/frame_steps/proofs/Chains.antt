-- The rows that a key begins in an operand, one by one.
use Rattle.std.proofs.Common.{◌≡◌, ℕ, zero, suc, ◌+◌, ◌≤◌, Bool, true, false, ◌&&◌, not, List, [], ◌∷◌, length, Some, refl, sym, ◌∙◌, subst, arith, if◌then◌else◌}
use Rattle.std.specs.Prelude.{nat_eq, nat_le, nat_lt}
use Rattle.grammar_model.specs.Tables.{What, nothing, token, operand, has}
use Rattle.grammar_model.specs.Rows.{Row, row_at, is_left, first_what, chain_in, chain_by, or_chain, put_before, chain_to, chain_of}
use Rattle.grammar_model.specs.Ocaml.{Text, rows, sizes, root_of, grammar}
use Rattle.grammar_model.specs.Machine.{first_of}
use Rattle.grammar_model.specs.Separate.{head_of}
use Rattle.grammar_laws.proofs.Laws.{Found}
use Rattle.grammar_laws.proofs.Instance.{found}
use Rattle.grammar_laws.proofs.Promises.{rows_tested}

-- the laws of chains and growers hold of the language's table
pub laws : (text : Text) → Found (grammar text)
laws text = found (root_of text) sizes rows (rows_tested text)

-- the rest of a chain of which the first row is known
pub record Chain (xs : List ℕ) (r : ℕ) : Type 0 where
  pub rest : List ℕ
  pub is : xs ≡ r ∷ rest

chain_at : (xs : List ℕ) (r : ℕ) → Some r ≡ head_of xs → Chain xs r
chain_at [] r h = absurd (cc)
chain_at (x ∷ xs) r h = record { rest = xs; is = cc }

-- where the first row begins with an operand, the chain goes on with that operand's chain
pub chain_on : (text : Text) (s k r t n : ℕ) → Some r ≡ head_of ((grammar text).chain s k) → (grammar text).what r (first_of (grammar text) r) ≡ operand t n → (grammar text).chain s k ≡ r ∷ (grammar text).chain t k
chain_on text s k r t n h w = by ((grammar text).chain s k) refl h
  where
    by : (xs : List ℕ) → (grammar text).chain s k ≡ xs → Some r ≡ head_of xs → xs ≡ r ∷ (grammar text).chain t k
    by [] e h = absurd (cc)
    by (x ∷ []) e h =
        let (sort, left, may, (ks, is, has)) = (laws text).chain_one s k x e in
        let same : r ≡ x = cc in
        let other : operand t n ≡ token ks = sym w ∙ (subst (λ r. (grammar text).what r (first_of (grammar text) r) ≡ token ks) (sym same) is) in absurd (cc)
    by (x ∷ y ∷ ys) e h =
        let (sort, left, may, (t', n', is, deeper, b)) = (laws text).chain_more s k x y ys e in
        let same : r ≡ x = cc in
        let other : operand t n ≡ operand t' n' = sym w ∙ (subst (λ r. (grammar text).what r (first_of (grammar text) r) ≡ operand t' n') (sym same) is) in
        let sorts : t ≡ t' = cc in
        let rest : (grammar text).chain t k ≡ y ∷ ys = subst (λ t. (grammar text).chain t k ≡ y ∷ ys) (sym sorts) deeper in
        cc

-- where it begins with a token, it is the last
pub chain_ends : (text : Text) (s k r : ℕ) (ks : List ℕ) → Some r ≡ head_of ((grammar text).chain s k) → (grammar text).what r (first_of (grammar text) r) ≡ token ks → (grammar text).chain s k ≡ r ∷ []
chain_ends text s k r ks h w = by ((grammar text).chain s k) refl h
  where
    by : (xs : List ℕ) → (grammar text).chain s k ≡ xs → Some r ≡ head_of xs → xs ≡ r ∷ []
    by [] e h = absurd (cc)
    by (x ∷ []) e h = cc
    by (x ∷ y ∷ ys) e h =
        let (sort, left, may, (t', n', is, deeper, b)) = (laws text).chain_more s k x y ys e in
        let same : r ≡ x = cc in
        let other : token ks ≡ operand t' n' = sym w ∙ (subst (λ r. (grammar text).what r (first_of (grammar text) r) ≡ operand t' n') (sym same) is) in absurd (cc)

-- no row begins with nothing
pub chain_some : (text : Text) (s k r : ℕ) → Some r ≡ head_of ((grammar text).chain s k) → (grammar text).what r (first_of (grammar text) r) ≡ nothing → ⊥
chain_some text s k r h w = by ((grammar text).chain s k) refl h
  where
    by : (xs : List ℕ) → (grammar text).chain s k ≡ xs → Some r ≡ head_of xs → ⊥
    by [] e h = cc
    by (x ∷ []) e h =
        let (sort, left, may, (ks, is, has)) = (laws text).chain_one s k x e in
        let same : r ≡ x = cc in
        let other : nothing ≡ token ks = sym w ∙ (subst (λ r. (grammar text).what r (first_of (grammar text) r) ≡ token ks) (sym same) is) in cc
    by (x ∷ y ∷ ys) e h =
        let (sort, left, may, (t', n', is, deeper, b)) = (laws text).chain_more s k x y ys e in
        let same : r ≡ x = cc in
        let other : nothing ≡ operand t' n' = sym w ∙ (subst (λ r. (grammar text).what r (first_of (grammar text) r) ≡ operand t' n') (sym same) is) in cc

-- a row put before a chain makes it one longer, or none
before_few : (all : List Row) (n i m : ℕ) (xs : List ℕ) → length xs ≤ m → length (put_before all n i xs) ≤ m + 1
before_few all n i m [] h = omega arith
before_few all n i m (q ∷ qs) h = by (nat_le n (row_at all q).stand)
  where
    by : (b : Bool) → length (if b then i ∷ q ∷ qs else []) ≤ m + 1
    by true = omega arith
    by false = omega arith

by_few : (all : List Row) (deeper : ℕ → ℕ → List ℕ) (i m : ℕ) (w : What) (k : ℕ) → ((s k : ℕ) → length (deeper s k) ≤ m) → length (chain_by all deeper i w k) ≤ m + 1
by_few all deeper i m nothing k h = omega arith
by_few all deeper i m (token ks) k h = by (has ks k)
  where
    by : (b : Bool) → length (if b then i ∷ [] else []) ≤ m + 1
    by true = omega arith
    by false = omega arith
by_few all deeper i m (operand s n) k h = before_few all n i m (deeper s k) (h s k)

or_few : (xs ys : List ℕ) (m : ℕ) → length xs ≤ m → length ys ≤ m → length (or_chain xs ys) ≤ m
or_few [] ys m a b = b
or_few (x ∷ xs) ys m a b = a

in_few : (all : List Row) (deeper : ℕ → ℕ → List ℕ) (m s k : ℕ) → ((s k : ℕ) → length (deeper s k) ≤ m) → (ws : List Row) (i : ℕ) → length (chain_in all deeper i ws s k) ≤ m + 1
in_few all deeper m s k h [] i = omega arith
in_few all deeper m s k h (w ∷ ws) i = by (nat_eq w.sort s && not (is_left w.left)) (in_few all deeper m s k h ws (i + 1))
  where
    by : (b : Bool) → length (chain_in all deeper (i + 1) ws s k) ≤ m + 1 →
        length (if b then or_chain (chain_by all deeper i (first_what w) k) (chain_in all deeper (i + 1) ws s k) else chain_in all deeper (i + 1) ws s k) ≤ m + 1
    by true r = or_few (chain_by all deeper i (first_what w) k) (chain_in all deeper (i + 1) ws s k) (m + 1) (by_few all deeper i m (first_what w) k h) r
    by false r = r

to_few : (d : ℕ) (ws : List Row) (s k : ℕ) → length (chain_to d ws s k) ≤ d
to_few zero ws s k = omega arith
to_few (suc d) ws s k = let h : length (chain_in ws (chain_to d ws) 0 ws s k) ≤ d + 1 = in_few ws (chain_to d ws) d s k (to_few d ws) ws 0 in omega arith

of_few : (d : ℕ) (b : Bool) (ws : List Row) (s k : ℕ) → length (if b then chain_to d ws s k else []) ≤ d
of_few d true ws s k = to_few d ws s k
of_few d false ws s k = omega arith

-- a chain has at most four rows
pub chain_few : (text : Text) (s k : ℕ) → length ((grammar text).chain s k) ≤ 4
unfolding chain_of
chain_few text s k = of_few 4 (nat_lt s sizes.sorts && nat_lt k sizes.keys) rows s k

-- the same by a spot that is told
pub next_on : (text : Text) (s k r p t n : ℕ) → Some r ≡ head_of ((grammar text).chain s k) → p ≡ first_of (grammar text) r → (grammar text).what r p ≡ operand t n → (grammar text).chain s k ≡ r ∷ (grammar text).chain t k
next_on text s k r p t n h e w = chain_on text s k r t n h (subst (λ p. (grammar text).what r p ≡ operand t n) e w)

pub next_ends : (text : Text) (s k r p : ℕ) (ks : List ℕ) → Some r ≡ head_of ((grammar text).chain s k) → p ≡ first_of (grammar text) r → (grammar text).what r p ≡ token ks → (grammar text).chain s k ≡ r ∷ []
next_ends text s k r p ks h e w = chain_ends text s k r ks h (subst (λ p. (grammar text).what r p ≡ token ks) e w)

pub next_some : (text : Text) (s k r p : ℕ) → Some r ≡ head_of ((grammar text).chain s k) → p ≡ first_of (grammar text) r → (grammar text).what r p ≡ nothing → ⊥
next_some text s k r p h e w = chain_some text s k r h (subst (λ p. (grammar text).what r p ≡ nothing) e w)
