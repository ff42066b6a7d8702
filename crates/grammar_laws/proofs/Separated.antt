-- There is at most one row of a sort and a key at one place, and `row_for` is the one.
use Rattle.std.proofs.Common.{◌≡◌, ℕ, Bool, true, false, List, [], ◌∷◌, Option, Some, None, refl, sym, ◌∙◌, ap, subst, if◌then◌else◌}
use Rattle.std.proofs.lemmas.Bool.{eqb-true, eq-eqb}
use Rattle.grammar_model.specs.Tables.{Table, What, nothing, token, operand, takes}
use Rattle.grammar_model.specs.Machine.{first_of}
use Rattle.grammar_model.specs.Rows.{Left, no_left, level, named, Row, row_at, is_left, Sizes, table_of, chain_of, grower_of}
use Rattle.grammar_model.specs.Separate.{StartsWith, AreSeparate, IsRowFor, head_of, is_same_left, with_left, row_for}
use Rattle.grammar_laws.proofs.Laws.{Separate, Found, begun_by}

-- a row without a left operand that starts with a key is the first of the key's chain
pub heads : (G : Table) → Separate G → (r k : ℕ) → G.has_left r ≡ false → StartsWith G r k → head_of (G.chain (G.sort r) k) ≡ Some r
heads G L r k none (p, may, can) = by (G.what r p) refl can
  where
    by : (w : What) → G.what r p ≡ w → takes G w k ≡ true → head_of (G.chain (G.sort r) k) ≡ Some r
    by nothing e h = absurd (cc)
    by (token ks) e h = ap head_of (L.chain_token r p k ks none may e h)
    by (operand s n) e h = let b = begun_by G n (G.chain s k) h in ap head_of (L.chain_operand r p k s n b.head b.rest none may e b.is b.stands)

-- a row with a left operand that goes on with a key is the key's grower
pub grows_by_key : (G : Table) → Separate G → (r k : ℕ) → G.has_left r ≡ true → StartsWith G r k → G.grower (G.sort r) k ≡ Some r
grows_by_key G L r k some (p, may, can) = L.grower_is r p k some may can

-- no sort has two rows of one key at one place
pub are_separate : (G : Table) → Separate G → AreSeparate G
are_separate G L r q k same left a b = by (G.has_left q) refl
  where
    by : (c : Bool) → G.has_left q ≡ c → r ≡ q
    by false e =
        let x = heads G L r k (left ∙ e) a in
        let y = heads G L q k e b in
        let z : Some r ≡ Some q = sym x ∙ ap (λ s. head_of (G.chain s k)) same ∙ y in cc
    by true e =
        let x = grows_by_key G L r k (left ∙ e) a in
        let y = grows_by_key G L q k e b in
        let z : Some r ≡ Some q = sym x ∙ ap (λ s. G.grower s k) same ∙ y in cc

-- the first row of a chain starts with the key
chain_starts : (G : Table) → Found G → (s k r : ℕ) (rs : List ℕ) → G.chain s k ≡ r ∷ rs → (G.sort r ≡ s) × (G.has_left r ≡ false) × StartsWith G r k
chain_starts G F s k r [] e =
    let (sort, left, may, (ks, is, h)) = F.chain_one s k r e in
    (sort, left, (first_of G r, may, subst (λ w. takes G w k ≡ true) (sym is) h))
chain_starts G F s k r (q ∷ qs) e =
    let (sort, left, may, (s', n, is, same, h)) = F.chain_more s k r q qs e in
    (sort, left, (first_of G r, may, subst (λ w. takes G w k ≡ true) (sym is) (rw same h)))

-- what has no left operand
no_left_is : (l : Left) → is_left l ≡ false → l ≡ no_left
no_left_is no_left h = refl
no_left_is (level n) h = absurd (cc)
no_left_is (named n) h = absurd (cc)

-- two left operands that are the same are equal
same_left_is : (l m : Left) → is_same_left l m ≡ true → l ≡ m
same_left_is no_left no_left h = refl
same_left_is no_left (level m) h = absurd (cc)
same_left_is no_left (named m) h = absurd (cc)
same_left_is (level n) no_left h = absurd (cc)
same_left_is (level n) (level m) h = ap level (eqb-true n m h)
same_left_is (level n) (named m) h = absurd (cc)
same_left_is (named n) no_left h = absurd (cc)
same_left_is (named n) (level m) h = absurd (cc)
same_left_is (named n) (named m) h = ap named (eqb-true n m h)

-- a left operand is the same as itself
left_same : (l : Left) → is_same_left l l ≡ true
left_same no_left = refl
left_same (level n) = eq-eqb n n refl
left_same (named n) = eq-eqb n n refl

-- a grower that is kept for its left operand
kept_left : (R : List Row) (l : Left) (o : Option ℕ) (r : ℕ) → with_left R l o ≡ Some r → (o ≡ Some r) × ((row_at R r).left ≡ l)
kept_left R l None r h = absurd (cc)
kept_left R l (Some q) r h = by (is_same_left (row_at R q).left l) refl h
  where
    by : (b : Bool) → is_same_left (row_at R q).left l ≡ b → (if b then Some q else None) ≡ Some r → (Some q ≡ Some r) × ((row_at R r).left ≡ l)
    by true e h = let same : q ≡ r = cc in (h, subst (λ q. (row_at R q).left ≡ l) same (same_left_is (row_at R q).left l e))
    by false e h = absurd (cc)

-- the row that is found has the sort, the left operand and the key
pub row_for_is : (root : ℕ) (z : Sizes) (R : List Row) → Found (table_of root z R) → (s : ℕ) (l : Left) (k r : ℕ) → row_for z R s l k ≡ Some r → IsRowFor (table_of root z R) R s l k r
unfolding row_for
row_for_is root z R F s no_left k r h = by (chain_of z R s k) refl h
  where
    by : (xs : List ℕ) → chain_of z R s k ≡ xs → head_of xs ≡ Some r → IsRowFor (table_of root z R) R s no_left k r
    by [] e h = absurd (cc)
    by (q ∷ qs) e h =
        let same : q ≡ r = cc in
        let (sort, left, starts) = chain_starts (table_of root z R) F s k q qs e in
        subst (IsRowFor (table_of root z R) R s no_left k) same (record { sort = sort; left = no_left_is (row_at R q).left left; key = starts })
row_for_is root z R F s (level n) k r h =
    let (o, left) = kept_left R (level n) (grower_of z R s k) r h in
    let (sort, some, may, can) = F.grower_left s k r o in record { sort = sort; left = left; key = (first_of (table_of root z R) r, may, can) }
row_for_is root z R F s (named n) k r h =
    let (o, left) = kept_left R (named n) (grower_of z R s k) r h in
    let (sort, some, may, can) = F.grower_left s k r o in record { sort = sort; left = left; key = (first_of (table_of root z R) r, may, can) }

-- a grower with this left operand is kept
keeps_left : (R : List Row) (l : Left) (r : ℕ) → (row_at R r).left ≡ l → with_left R l (Some r) ≡ Some r
keeps_left R l r h = rw (ap (λ x. is_same_left x l) h ∙ left_same l) refl

-- a row of the sort, the left operand and the key is found
pub is_row_for : (root : ℕ) (z : Sizes) (R : List Row) → Separate (table_of root z R) → (s : ℕ) (l : Left) (k r : ℕ) → IsRowFor (table_of root z R) R s l k r → row_for z R s l k ≡ Some r
unfolding row_for
is_row_for root z R L s no_left k r h =
    subst (λ s. head_of (chain_of z R s k) ≡ Some r) h.sort (heads (table_of root z R) L r k (ap is_left h.left) h.key)
is_row_for root z R L s (level n) k r h =
    let g = subst (λ s. grower_of z R s k ≡ Some r) h.sort (grows_by_key (table_of root z R) L r k (ap is_left h.left) h.key) in
    ap (with_left R (level n)) g ∙ keeps_left R (level n) r h.left
is_row_for root z R L s (named n) k r h =
    let g = subst (λ s. grower_of z R s k ≡ Some r) h.sort (grows_by_key (table_of root z R) L r k (ap is_left h.left) h.key) in
    ap (with_left R (named n)) g ∙ keeps_left R (named n) r h.left
