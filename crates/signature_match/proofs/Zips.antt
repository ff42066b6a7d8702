-- Two lists that agree at each index.
use Rattle.std.proofs.Common.{◌≡◌, ℕ, suc, ◌<◌, List, [], ◌∷◌, ◌++◌, length, get_or, sym, subst, inl, inr, arith}
use Rattle.std.specs.List.{AllZip}
use Rattle.std.proofs.lemmas.List.{length-append}
use Rattle.type_nodes.proofs.Lists.{same_or_other}

-- what holds at each index of two lists of one length holds one by one
pub zipped_at : {A B : Type 0} (R : A → B → Type 0) (xs : List A) (ys : List B) → length xs ≡ length ys → ((k : ℕ) (d : A) (e : B) → k < length xs → R (get_or xs k d) (get_or ys k e)) → AllZip R xs ys
zipped_at R [] [] same at = tt
zipped_at R [] (y ∷ ys) same at = absurd (omega arith)
zipped_at R (x ∷ xs) [] same at = absurd (omega arith)
zipped_at R (x ∷ xs) (y ∷ ys) same at = (at 0 x y (omega arith), zipped_at R xs ys (omega arith) (λ k d e h. at (suc k) d e (omega arith)))

-- what holds at each index so far, and at the next one
pub zipped_more : {A X : Type 0} (R : A → A → Type 0) (xs ys : List A) (zs : List X) (z : X) (x y : A) → ((d : A) → x ≡ get_or xs (length zs) d) → ((d : A) → y ≡ get_or ys (length zs) d) → R x y →
    ((k : ℕ) (d e : A) → k < length zs → R (get_or xs k d) (get_or ys k e)) → (k : ℕ) (d e : A) → k < length (zs ++ z ∷ []) → R (get_or xs k d) (get_or ys k e)
zipped_more R xs ys zs z x y at_x at_y here before k d e lt = elim (same_or_other k (length zs)) [
  | inl same ↦ subst (λ i. R (get_or xs i d) (get_or ys i e)) (sym same) (subst (λ a. R a (get_or ys (length zs) e)) (at_x d) (subst (λ b. R x b) (at_y e) here))
  | inr other ↦ before k d e (let longer = length-append zs (z ∷ []) in omega arith)
]
