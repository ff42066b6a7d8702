-- The part of a pattern by which its mark goes on.
use Rattle.std.proofs.Common.{◌≡◌, ℕ, zero, suc, ◌<◌, ◌≤◌, List, [], ◌∷◌, length, map, get_or, Some, refl, ap, arith}
use Rattle.pattern_matrix.specs.Lines.{listed}
use Rattle.pattern_matrix.specs.Views.{typed_of}
use Rattle.pattern_matrix.specs.Marks.{mark_from, mark_part}
use Rattle.pattern_matrix.specs.declared.patterns.Pat.{Pat}

-- where there is a part at the place, the mark goes on by it
pub part-there : (at c : ℕ) (xs : List Pat) (p : Pat) → at < length xs → p ≡ get_or xs at p → mark_from c (typed_of p) ≡ mark_part at c (listed (map typed_of xs))
part-there at c [] p h e = absurd (omega arith)
part-there zero c (x ∷ xs) p h e = ap (λ q. mark_from c (typed_of q)) e
part-there (suc at) c (x ∷ xs) p h e = part-there at c xs p (omega arith) e

-- where there are fewer parts, the mark ends
pub part-lacking : (at c : ℕ) (xs : List Pat) → length xs ≤ at → Some c ≡ mark_part at c (listed (map typed_of xs))
part-lacking at c [] h = refl
part-lacking zero c (x ∷ xs) h = absurd (omega arith)
part-lacking (suc at) c (x ∷ xs) h = part-lacking at c xs (omega arith)
