-- The parts of a tuple that are made one with other types, in order.
use Rattle.std.proofs.Common.{◌≡◌, ◌∙◌, ◌++◌, ◌+◌, ◌<◌, ◌≤◌, ◌-◌, ℕ, zero, suc, List, [], ◌∷◌, length, drop, get_or, refl, sym, ap, subst, arith}
use Rattle.std.proofs.lemmas.List.{drop_more, drop_all}
use Rattle.type_terms.specs.declared.types.NodeRef.{NodeRef}
use Rattle.type_nodes.specs.Views.{numbers}
use Rattle.typing_state.specs.declared.parts.Parts.{Parts}
use Rattle.typing_state.specs.Goes.{OnlyStore}
use Rattle.type_reading.specs.Filling.{JoinsOne, JoinsAll}

-- a part before the last one
part_at : (parts : List NodeRef) (ps : List ℕ) (body i : ℕ) (x : NodeRef) → numbers parts ≡ ps ++ body ∷ [] → i < length ps → x ≡ get_or parts i x → get_or ps i x.0 ≡ x.0
part_at parts [] body i x e lt at = absurd (omega arith)
part_at [] (p ∷ ps) body i x e lt at = absurd (cc)
part_at (y ∷ ys) (p ∷ ps) body zero x e lt at = let g : y.0 ≡ p = cc in sym g ∙ ap (λ (z : NodeRef). z.0) (sym at)
part_at (y ∷ ys) (p ∷ ps) body (suc i) x e lt at = part_at ys ps body i x (let g : numbers ys ≡ ps ++ body ∷ [] = cc in g) (omega arith) at

-- the number of a node of a list
number_at : (xs : List NodeRef) (i k : ℕ) (d : NodeRef) → i < length xs → get_or (numbers xs) i k ≡ (get_or xs i d).0
number_at [] i k d lt = absurd (omega arith)
number_at (y ∷ ys) zero k d lt = refl
number_at (y ∷ ys) (suc i) k d lt = number_at ys i k d (omega arith)

-- there are as many numbers as nodes
many_numbers : (xs : List NodeRef) → length (numbers xs) ≡ length xs
many_numbers [] = refl
many_numbers (x ∷ xs) = ap suc (many_numbers xs)

-- one more part was made one with its type
pub more_joined : (a b : Parts) (parts xs : List NodeRef) (i : ℕ) (p d : NodeRef) (ps : List ℕ) (body : ℕ) (new : Parts) → i < length xs → p ≡ get_or parts i p → JoinsOne a b p.0 (get_or xs i d).0 → numbers parts ≡ ps ++ body ∷ [] → length ps ≡ length (numbers xs) →
    JoinsAll b new (drop (i + 1) ps) (drop (i + 1) (numbers xs)) → JoinsAll a new (drop i ps) (drop i (numbers xs))
more_joined a b parts xs i p d ps body new lt there one e many rest =
    let m = many_numbers xs in
    let x = (get_or xs i d).0 in
    let left : drop i ps ≡ p.0 ∷ drop (i + 1) ps = drop_more ps i p.0 (omega (arith, m, many, lt)) ∙ ap (λ y. y ∷ drop (i + 1) ps) (part_at parts ps body i p e (omega (arith, m, many, lt)) there) in
    let right : drop i (numbers xs) ≡ x ∷ drop (i + 1) (numbers xs) = drop_more (numbers xs) i 0 (omega (arith, m, lt)) ∙ ap (λ y. y ∷ drop (i + 1) (numbers xs)) (number_at xs i 0 d lt) in
    subst (λ us. JoinsAll a new us (drop i (numbers xs))) (sym left) (subst (λ us. JoinsAll a new (p.0 ∷ drop (i + 1) ps) us) (sym right) (b, one, rest))

many_last : (ps : List ℕ) (body : ℕ) → length (ps ++ body ∷ []) ≡ suc (length ps)
many_last [] body = refl
many_last (p ∷ ps) body = ap suc (many_last ps body)

-- there is a part for each type
pub part_there : (parts xs : List NodeRef) (i : ℕ) (ps : List ℕ) (body : ℕ) → i < length xs → numbers parts ≡ ps ++ body ∷ [] → length ps ≡ length (numbers xs) → i < length parts
part_there parts xs i ps body lt e many =
    let m = many_numbers xs in
    let n : length parts ≡ suc (length ps) = sym (many_numbers parts) ∙ ap length e ∙ many_last ps body in
    omega (arith, m, n, many, lt)

-- the last part
pub last_part : (parts : List NodeRef) (ps : List ℕ) (body : ℕ) (x : NodeRef) → numbers parts ≡ ps ++ body ∷ [] → x ≡ get_or parts (length parts - 1) x → x.0 ≡ body
last_part parts ps body x e at = ap (λ (z : NodeRef). z.0) at ∙ by parts ps (length parts - 1) e (let n : length parts ≡ suc (length ps) = sym (many_numbers parts) ∙ ap length e ∙ many_last ps body in omega (arith, n))
  where
    by : (parts : List NodeRef) (ps : List ℕ) (k : ℕ) → numbers parts ≡ ps ++ body ∷ [] → k ≡ length ps → (get_or parts k x).0 ≡ body
    by [] [] k f g = absurd (cc)
    by [] (p ∷ ps) k f g = absurd (cc)
    by (y ∷ ys) [] k f g = let h : y.0 ≡ body = cc in ap (λ j. (get_or (y ∷ ys) j x).0) g ∙ h
    by (y ∷ ys) (p ∷ ps) k f g = ap (λ j. (get_or (y ∷ ys) j x).0) g ∙ by ys ps (length ps) (let h : numbers ys ≡ ps ++ body ∷ [] = cc in h) refl

-- all were
pub all_joined : (a : Parts) (xs : List NodeRef) (i : ℕ) (ps : List ℕ) → length xs ≤ i → length ps ≡ length (numbers xs) → JoinsAll a a (drop i ps) (drop i (numbers xs))
all_joined a xs i ps le many =
    let m = many_numbers xs in
    subst (λ us. JoinsAll a a us (drop i (numbers xs))) (sym (drop_all i ps (omega (arith, m, many, le)))) (subst (λ us. JoinsAll a a [] us) (sym (drop_all i (numbers xs) (omega (arith, m, le)))) refl)

-- the store alone changes in two steps, where it does in each
pub store_then : {a b c : Parts} → OnlyStore a b → OnlyStore b c → OnlyStore a c
store_then p q = record {
  index = q.index ∙ p.index;
  faults = q.faults ∙ p.faults;
  written = q.written ∙ p.written;
  item = q.item ∙ p.item;
  level = q.level ∙ p.level;
  telling = q.telling ∙ p.telling;
  constants = q.constants ∙ p.constants;
}

-- nothing changes
pub store_same : (a : Parts) → OnlyStore a a
store_same a = record { index = refl; faults = refl; written = refl; item = refl; level = refl; telling = refl; constants = refl }
