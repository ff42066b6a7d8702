-- The copies of several nodes.
use Rattle.std.proofs.Common.{◌≡◌, ℕ, List, [], ◌∷◌, ◌++◌, map, sym, ◌∙◌, ap}
use Rattle.type_terms.specs.declared.types.NodeRef.{NodeRef}
use Rattle.type_nodes.specs.Views.{numbers}

numbers_behind : (f : ℕ → ℕ) (xs : List NodeRef) (copy : NodeRef) (m : ℕ) (ms : List ℕ) → copy.0 ≡ f m → numbers (xs ++ copy ∷ []) ++ map f ms ≡ numbers xs ++ map f (m ∷ ms)
numbers_behind f [] copy m ms e = ap (λ k. k ∷ map f ms) e
numbers_behind f (x ∷ xs) copy m ms e = ap (λ ks. x.0 ∷ ks) (numbers_behind f xs copy m ms e)

-- one image more
pub image_more : (f : ℕ → ℕ) (xs xs' left rest all : List NodeRef) (part copy : NodeRef) → xs' ≡ xs ++ copy ∷ [] → copy.0 ≡ f part.0 → left ≡ part ∷ rest →
    numbers xs ++ map f (numbers left) ≡ map f (numbers all) → numbers xs' ++ map f (numbers rest) ≡ map f (numbers all)
image_more f xs xs' left rest all part copy pushed is split before =
    ap (λ ys. numbers ys ++ map f (numbers rest)) pushed ∙ numbers_behind f xs copy part.0 (numbers rest) is ∙ ap (λ ys. numbers xs ++ map f (numbers ys)) (sym split) ∙ before
