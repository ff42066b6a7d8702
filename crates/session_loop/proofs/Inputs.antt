-- What was taken up to the end is the whole input.
use Rattle.std.proofs.Common.{List, ℕ, [], ◌++◌, sym, ◌∙◌, ap, subst, append-nil, append_assoc, Some, None, IfSome}
use Rattle.std.specs.Prelude.{Option}
use Rattle.std.specs.Io.KnownBytes.{Consumes, IsAtEnd}
use Rattle.std.proofs.KnownBytes.{Consumes-trans}

pub consumed_all : (a b c : Option (List ℕ)) (taken : List ℕ) (P : List ℕ → Type 0) → Consumes a b taken → Consumes b c [] → IsAtEnd c → P taken → IfSome a P
consumed_all a b c taken P first last end p = whole a c (taken ++ []) (Consumes-trans a b c taken [] first last) end (subst P (sym (append-nil taken)) p)
  where
    whole : (a c : Option (List ℕ)) (taken : List ℕ) → Consumes a c taken → IsAtEnd c → P taken → IfSome a P
    whole None c taken first end p = tt
    whole (Some x) None taken first end p = absurd first
    whole (Some x) (Some y) taken first end p = subst P (sym (first ∙ ap (λ (l : List ℕ). taken ++ l) end ∙ append-nil taken)) p

-- what was taken is a front of the input
pub consumed_front : (a b : Option (List ℕ)) (front back : List ℕ) (P : List ℕ → Type 0) → Consumes a b (front ++ back) → ((rest : List ℕ) → P (front ++ rest)) → IfSome a P
consumed_front None b front back P taken p = tt
consumed_front (Some x) None front back P taken p = absurd taken
consumed_front (Some x) (Some y) front back P taken p = subst P (sym (taken ∙ append_assoc front back y)) (p (back ++ y))
