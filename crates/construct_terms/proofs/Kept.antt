-- What is kept of candidates, one more at a time.
use Rattle.std.proofs.Common.{inl, inr, ℕ, List, [], ◌∷◌, ◌++◌, Option, Some, None, refl, ap}
use Rattle.query_engine.specs.declared.trials.Replacement.{Replacement}
use Rattle.construct_terms.specs.Terms.{AreKept}

-- a candidate behind the others of which no place is told is kept
pub kept_more : (Tells : Replacement → Option ℕ → Type 0) (cs kept : List Replacement) (c : Replacement) → AreKept Tells cs kept → Tells c None → AreKept Tells (cs ++ c ∷ []) (kept ++ c ∷ [])
kept_more Tells [] kept c are none = inl (none, ([], ap (λ k. k ++ c ∷ []) are, refl))
kept_more Tells (d ∷ cs) kept c (inl (untold, (rest, is, are))) none = inl (untold, (rest ++ c ∷ [], ap (λ k. k ++ c ∷ []) is, kept_more Tells cs rest c are none))
kept_more Tells (d ∷ cs) kept c (inr (p, told, are)) none = inr (p, told, kept_more Tells cs kept c are none)

-- one of which a place is told isn't
pub kept_same : (Tells : Replacement → Option ℕ → Type 0) (cs kept : List Replacement) (c : Replacement) (p : ℕ) → AreKept Tells cs kept → Tells c (Some p) → AreKept Tells (cs ++ c ∷ []) kept
kept_same Tells [] kept c p are told = inr (p, told, are)
kept_same Tells (d ∷ cs) kept c p (inl (untold, (rest, is, are))) told = inl (untold, (rest, is, kept_same Tells cs rest c p are told))
kept_same Tells (d ∷ cs) kept c p (inr (q, other, are)) told = inr (q, other, kept_same Tells cs kept c p are told)
