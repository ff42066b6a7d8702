-- Letters that have copies among others.
use Rattle.std.proofs.Common.{ℕ, suc, inl, inr, ◌∷◌, ◌++◌}
use Rattle.typing_conditions.specs.Sights.{Key, Letters}
use Rattle.typing_conditions.specs.Carrying.{AreCopied}
use Rattle.typing_conditions.proofs.Hiding.{split_get, copy_itself, copy_of, copy_second}

-- letters have copies among themselves
pub copied_same : (xs : Letters) → AreCopied xs xs
copied_same xs k x e = copy_itself xs k x e

-- and where others come before them
pub copied_after : (more xs : Letters) → AreCopied xs (more ++ xs)
copied_after more xs k x e = copy_second more xs (copy_itself xs k x e)

-- and where one more does
pub copied_more : (x : Key × ℕ) (xs : Letters) → AreCopied xs (x ∷ xs)
copied_more y xs k x e = copy_itself (y ∷ xs) (suc k) x e

-- copies of copies are copies
pub copied_both : (xs ys zs : Letters) → AreCopied xs ys → AreCopied ys zs → AreCopied xs zs
copied_both xs ys zs p q k x e = let h = p k x e in copy_of h (q h.place h.entry h.at)

-- letters have copies where those of two parts have
pub copied_parts : (xs ys zs : Letters) → AreCopied xs zs → AreCopied ys zs → AreCopied (xs ++ ys) zs
copied_parts xs ys zs p q k x e = elim (split_get xs ys k x e) [ inl f ↦ p f.0 x f.1 | inr f ↦ q f.0 x f.1 ]
